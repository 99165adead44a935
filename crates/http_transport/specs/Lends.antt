-- What a framed transport ends as, where a `&mut` to one of its parts is returned.
use Rattle.std.specs.Borrow.{Lends, Fml, RattleType, MutBor}
use Rattle.http_transport.specs.Parts.{Parts}
use Rattle.http_transport.specs.contracts.framed.Framed.{the_row}

module _ (T U : RattleType) (s : MutBor (Parts T.Denot U.Denot)) where
  -- once the borrow r ends, it has the transport last written through r
  abbrev pub lends_io : MutBor T.Denot → Fml
  lends_io r = Lends (the_row T U) T s r (λ w. record s.now { io = w })

  -- the same for the codec
  abbrev pub lends_codec : MutBor U.Denot → Fml
  lends_codec r = Lends (the_row T U) U s r (λ w. record s.now { codec = w })
