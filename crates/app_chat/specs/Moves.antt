-- What a hub does for one of its connections.
use Rattle.std.specs.Prelude.{◌≡◌, ◌==◌, ℕ, Bool, true, false, List, [], ◌++◌, Option, Some, None, ⊤}
use Rattle.model_h1.specs.Event.{Event}
use Rattle.model_h1.specs.Event as on
use Rattle.model_h1.specs.Sums.{taken, written}
use Rattle.model_rooms.specs.Seen.{Seen}
use Rattle.model_rooms.specs.Trace.{core_trace}
use Rattle.rooms.specs.Hub.{HubState, HubStands}

-- After this trace the hub goes on by these steps: the connection with this number takes the bytes that came and gives those
-- that are to be written, and no other connection does anything.
pub record MovesAfter (i : ℕ) (came went : List ℕ) (after : HubState) (seen : List Seen) : Type 0 where
  pub more : List Seen
  pub stands : HubStands after (more ++ seen)
  pub took : taken (core_trace i (more ++ seen)) ≡ taken (core_trace i seen) ++ came
  pub gave : written (core_trace i (more ++ seen)) ≡ written (core_trace i seen) ++ went
  pub alone : (j : ℕ) → (j == i) ≡ false → core_trace j (more ++ seen) ≡ core_trace j seen

-- the same after each trace that the hub stands for
pub record Moves (i : ℕ) (hub : HubState) (came went : List ℕ) (after : HubState) : Type 0 where
  pub goes : (seen : List Seen) → HubStands hub seen → MovesAfter i came went after seen

-- the connection gives these bytes to be written
abbrev pub Gives : ℕ → HubState → Option (List ℕ) → HubState → Type 0
Gives i hub (Some bytes) after = Moves i hub [] bytes after
Gives i hub None after = ⊤

-- bytes may come or go by the event
abbrev pub carries : Event → Bool
carries (on.read bytes) = true
carries (on.write n) = true
carries _ = false
