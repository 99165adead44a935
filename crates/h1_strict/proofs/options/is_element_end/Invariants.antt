use Rattle.std.specs.Prelude.{◌≡◌, length}
use Rattle.h1_strict.specs.Options.{is_element_end}
use Rattle.h1_strict.proofs.options.is_element_end.Given as goal

abbrev pub invariant-loop-byte : goal.invariant-loop-byte
invariant-loop-byte l = is_element_end l.rest ≡ is_element_end l.text

abbrev pub decreases-loop-byte : goal.decreases-loop-byte
decreases-loop-byte l = length l.rest
