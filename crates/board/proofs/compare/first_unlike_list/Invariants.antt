use Rattle.std.specs.Prelude.{take}
use Rattle.board.specs.Views.{Agrees}
use Rattle.board.proofs.compare.first_unlike_list.Given as goal

abbrev pub invariant-loop-pass : goal.invariant-loop-pass
invariant-loop-pass g l = Agrees l.journal (take l.pass-index l.passes)
