use Rattle.std.proofs.Common.{◌≡◌, true, take, drop}
use Rattle.model_h1.specs.Place.{in_section}
use Rattle.model_h1.specs.TakeNext.{take_next}
use Rattle.h1_payload.specs.Places.{line_of, place_of, is_section}
use Rattle.h1_payload.specs.Scans.{noting}
use Rattle.h1_payload.proofs.scan.pass_lines.Given as goal

-- what was passed is noted, and the place is in the section
abbrev pub invariant-loop-at : goal.invariant-loop-at
invariant-loop-at l =
    let start = in_section (line_of l.fn.line) l.fn.lines l.fn.room in
    (is_section (place_of l.place) ≡ true)
    × (take_next start l.bytes ≡ noting (take l.at l.bytes) (take_next (place_of l.place) (drop l.at l.bytes)))
