use Rattle.std.proofs.Common.{◌+◌, ◌-◌, ◌≤◌, length, drop}
use Rattle.h1_output.specs.OutputPieces.{CopiesTo, used}
use Rattle.h1_output.proofs.copies.copy_rest.Given as given

abbrev pub invariant-loop-place : given.invariant-loop-place
invariant-loop-place l =
    (l.place.at ≤ length l.buf) × (l.place.from + used (drop l.next l.rest.items) ≤ length l.own) × (l.next ≤ length l.rest.items)
    × CopiesTo l.fn.buf l.fn.place.at l.rest.items (drop l.fn.place.from l.own) l.buf l.place.at (drop l.next l.rest.items) (drop l.place.from l.own)

abbrev pub decreases-loop-place : given.decreases-loop-place
decreases-loop-place l = length l.rest.items - l.next
