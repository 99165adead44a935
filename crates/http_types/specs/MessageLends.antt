-- What a message ends as, where a `&mut` to its head is returned.
use Rattle.std.specs.Borrow.{Lends, Fml, RattleType, MutBor}
use Rattle.http_types.specs.contracts.message.Message.{the_row}

-- the message has the head last written through r
abbrev pub lends_head : (T : RattleType) → MutBor T.Denot → MutBor T.Denot → Fml
lends_head T s r = Lends (the_row T) T s r (λ w. w)
