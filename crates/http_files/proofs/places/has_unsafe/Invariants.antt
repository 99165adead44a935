use Rattle.std.specs.Prelude.{◌≡◌, length}
use Rattle.http_files.specs.Places.{has_unsafe}
use Rattle.http_files.proofs.places.has_unsafe.Given as goal

abbrev pub invariant-loop-byte : goal.invariant-loop-byte
invariant-loop-byte l = has_unsafe l.rest ≡ has_unsafe l.text

abbrev pub decreases-loop-byte : goal.decreases-loop-byte
decreases-loop-byte l = length l.rest
