use Rattle.std.specs.Prelude.{ℕ, ◌≡◌, ◌<◌, Some}
use Rattle.std.specs.List.{slice_get}
use Rattle.board.specs.Views.{Held}
use Rattle.board.specs.Cursors.{IsThrough}
use Rattle.board.proofs.compare.are_through.Given as goal

abbrev pub invariant-loop-at : goal.invariant-loop-at
invariant-loop-at g l = (k : ℕ) (pass : Held) → k < l.at → slice_get l.passes k ≡ Some pass → IsThrough l.cursors k pass
