use Rattle.std.specs.Prelude.{◌≡◌, length}
use Rattle.h1_strict.specs.Judgement.{are_zero}
use Rattle.h1_strict.proofs.check.are_zero.Given as goal

abbrev pub invariant-loop-length : goal.invariant-loop-length
invariant-loop-length l = are_zero l.rest ≡ are_zero l.lengths

abbrev pub decreases-loop-length : goal.decreases-loop-length
decreases-loop-length l = length l.rest
