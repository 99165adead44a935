use Rattle.std.specs.Prelude.{◌≡◌, length}
use Rattle.h1_strict.specs.Host.{is_port}
use Rattle.h1_strict.proofs.host.is_port.Given as goal

abbrev pub invariant-loop-byte : goal.invariant-loop-byte
invariant-loop-byte l = is_port l.rest ≡ is_port l.text

abbrev pub decreases-loop-byte : goal.decreases-loop-byte
decreases-loop-byte l = length l.rest
