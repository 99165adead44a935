use Rattle.std.specs.Prelude.{take}
use Rattle.board.specs.Cursors.{Stand}
use Rattle.board.proofs.compare.walk.Given as goal

abbrev pub invariant-loop-entry : goal.invariant-loop-entry
invariant-loop-entry g l = Stand (take l.entry-index l.journal) l.passes l.cursors
