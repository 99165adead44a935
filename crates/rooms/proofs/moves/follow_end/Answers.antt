use Rattle.std.proofs.Common.{refl, sym, ◌∙◌}
use Rattle.rooms.proofs.MoveLemmas.{leaves, stays}
use Rattle.rooms.proofs.moves.follow_end.Goals as goal

pub returns-then-closes : goal.returns-then-closes
returns-then-closes c =
    c.leave.ensures ∙ leaves _ c.args.number _ c.args.rooms.now (sym c.closes.ensures.value ∙ c.if-closes.true) refl

pub returns-else-closes : goal.returns-else-closes
returns-else-closes c = stays _ c.args.number _ c.args.rooms.now (sym c.closes.ensures.value ∙ c.if-closes.false) refl
