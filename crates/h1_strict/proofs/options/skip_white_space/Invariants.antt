use Rattle.std.specs.Prelude.{◌≡◌, length}
use Rattle.httparse.specs.Grammar.{skip_ows}
use Rattle.h1_strict.proofs.options.skip_white_space.Given as goal

abbrev pub invariant-loop-byte : goal.invariant-loop-byte
invariant-loop-byte l = skip_ows l.rest ≡ skip_ows l.text

abbrev pub decreases-loop-byte : goal.decreases-loop-byte
decreases-loop-byte l = length l.rest
