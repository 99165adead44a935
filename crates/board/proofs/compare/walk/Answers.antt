use Rattle.std.proofs.Common.{subst}
use Rattle.std.proofs.lemmas.List.{take_all}
use Rattle.board.specs.Cursors.{Stand}
use Rattle.board.proofs.compare.walk.Goals as goal

pub returns : goal.returns
returns g c =
    λ told.
    subst (λ journal. Stand journal c.args.passes.now c.loop-entry.cursors) (take_all c.loop-entry.entry-index c.args.journal.now c.loop-entry-test.false) c.loop-entry.invariant
