use Rattle.std.specs.Prelude.{[]}
use Rattle.board.specs.Cursors.{Stand}
use Rattle.board.proofs.compare.set_out.Given as goal

abbrev pub invariant-loop-at : goal.invariant-loop-at
invariant-loop-at g l = Stand [] l.passes l.cursors
