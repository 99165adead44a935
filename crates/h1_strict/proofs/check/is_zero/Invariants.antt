use Rattle.std.specs.Prelude.{◌≡◌, length}
use Rattle.h1_strict.specs.Judgement.{is_zero}
use Rattle.h1_strict.proofs.check.is_zero.Given as goal

abbrev pub invariant-loop-byte : goal.invariant-loop-byte
invariant-loop-byte l = is_zero l.rest ≡ is_zero l.text

abbrev pub decreases-loop-byte : goal.decreases-loop-byte
decreases-loop-byte l = length l.rest
