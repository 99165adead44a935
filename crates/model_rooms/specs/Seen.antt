-- The past of a hub: its steps, the newest first, and the rows of its members by them.
use Rattle.std.specs.Prelude.{ℕ, Bool, List, [], ◌∷◌, map}
use Rattle.model_rooms.specs.Hub.{HubStep, move_of}
use Rattle.model_rooms.specs.Member.{Member, with_opened, rows_behind, member_at}

-- a step, and whether the connection that it moves closes after it
pub record Seen : Type 0 where
  pub step : HubStep
  pub closes : Bool

abbrev pub steps_of : List Seen → List HubStep
steps_of seen = map (λ s. s.step) seen

-- the row of each connection, in the order of their numbers
unfoldable pub members_of : List Seen → List Member
members_of [] = []
members_of (s ∷ before) =
    rows_behind (steps_of before) s.closes (move_of s.step) (with_opened s.step.event (members_of before))

-- the row of the connection with this number
abbrev pub row_of : ℕ → List Seen → Member
row_of i seen = member_at i (members_of seen)
