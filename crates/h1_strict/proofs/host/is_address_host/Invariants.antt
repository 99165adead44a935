use Rattle.std.specs.Prelude.{◌≡◌, length}
use Rattle.h1_strict.specs.Host.{is_address_host}
use Rattle.h1_strict.proofs.host.is_address_host.Given as goal

abbrev pub invariant-loop-byte : goal.invariant-loop-byte
invariant-loop-byte l = is_address_host l.rest ≡ is_address_host l.text

abbrev pub decreases-loop-byte : goal.decreases-loop-byte
decreases-loop-byte l = length l.rest
