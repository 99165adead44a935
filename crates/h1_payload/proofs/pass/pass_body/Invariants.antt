use Rattle.std.proofs.Common.{◌≡◌, ◌-◌, ◌≤◌, length, drop}
use Rattle.model_h1.specs.Place.{after}
use Rattle.model_h1.specs.Reading.{read}
use Rattle.h1_payload.specs.Places.{place_of}
use Rattle.h1_payload.proofs.pass.pass_body.Given as goal

-- the rest is read to the same end, and leads to the same place
abbrev pub invariant-loop-at : goal.invariant-loop-at
invariant-loop-at l =
    (l.at ≤ length l.bytes)
    × ((read (place_of l.fn.start) l.bytes).ending ≡ (read (place_of l.place) (drop l.at l.bytes)).ending)
    × (after (place_of l.fn.start) l.bytes ≡ after (place_of l.place) (drop l.at l.bytes))

abbrev pub decreases-loop-at : goal.decreases-loop-at
decreases-loop-at l = length l.bytes - l.at
