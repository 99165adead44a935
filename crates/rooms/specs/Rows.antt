-- What the calls of a table make of its rows.
use Rattle.std.specs.Prelude.{◌≡◌, ℕ, ◌≤◌, ◌==◌, List, Option, if◌then◌else◌}
use Rattle.model_h1.specs.Frame.{Frame}
use Rattle.model_h1.specs.Event as on
use Rattle.model_rooms.specs.Member.{Member, says, effect_in, heard, with_effect, byte_count, MAX_PART_BYTES}

-- the count is that of the parts, of which there are not too many
pub record CountsParts (count : ℕ) (parts : List Frame) : Type 0 where
  pub is : count ≡ byte_count parts
  pub fits : count ≤ MAX_PART_BYTES

-- the row with this number changed, and no other
abbrev pub only : ℕ → (Member → Member) → ℕ → Member → Member
only i change j m = if j == i then change m else m

-- the others hear these lines
abbrev pub others_hear : ℕ → Option (List ℕ) → List Frame → ℕ → Member → Member
others_hear i room fs j m = if j == i then m else heard (says fs) room m

-- a frame of the member with this number has its effect on it, and what it says is heard by the others
abbrev pub spoken : ℕ → Member → Frame → ℕ → Member → Member
spoken i mover f j m =
    if j == i then with_effect (effect_in mover (on.frame f)) m else heard (effect_in mover (on.frame f)) mover.room m
