use Rattle.std.specs.Prelude.{◌≡◌, length}
use Rattle.h1_strict.specs.Options.{has_later_element}
use Rattle.h1_strict.proofs.options.has_later_element.Given as goal

abbrev pub invariant-loop-byte : goal.invariant-loop-byte
invariant-loop-byte l = has_later_element l.word l.rest ≡ has_later_element l.word l.text

abbrev pub decreases-loop-byte : goal.decreases-loop-byte
decreases-loop-byte l = length l.rest
