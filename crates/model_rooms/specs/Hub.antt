-- What happens to a hub of connections, and what it answers.
use Rattle.std.specs.Prelude.{ℕ, ◌+◌, ◌==◌, List, [], ◌∷◌, if◌then◌else◌, Option, Some, None}
use Rattle.model_h1.specs.Event.{Event, Outcome}
use Rattle.model_h1.specs.Sums.{Step}

-- the most connections of a hub
abbrev pub MAX_CONNECTIONS : ℕ
MAX_CONNECTIONS = 4096

-- A connection is opened; an event comes to the connection with this number; or that connection has a turn.
pub data HubEvent : Type 0 where
  opens : HubEvent
  feeds : ℕ → Event → HubEvent
  turns : ℕ → HubEvent

-- the number of the connection that was opened; or the event that a connection had, and its outcome
pub data HubOutcome : Type 0 where
  opened : ℕ → HubOutcome
  core : Event → Outcome → HubOutcome

-- what happened, and what came of it
pub record HubStep : Type 0 where
  pub event : HubEvent
  pub outcome : HubOutcome

abbrev pub counted : HubEvent → ℕ → ℕ
counted opens n = n + 1
counted _ n = n

-- how many connections were opened; they have the numbers from 0 on
abbrev pub open_count : List HubStep → ℕ
open_count [] = 0
open_count (s ∷ before) = counted s.event (open_count before)

-- a step of one connection: its number, and the event with its outcome
pub record Move : Type 0 where
  pub number : ℕ
  pub step : Step

abbrev pub move_with : ℕ → HubOutcome → Option Move
move_with i (opened n) = None
move_with i (core event outcome) = Some (record { number = i; step = record { event = event; outcome = outcome } })

abbrev pub move_by : HubEvent → HubOutcome → Option Move
move_by opens outcome = None
move_by (feeds i event) outcome = move_with i outcome
move_by (turns i) outcome = move_with i outcome

-- what the step is to a connection, if it is to one
abbrev pub move_of : HubStep → Option Move
move_of s = move_by s.event s.outcome

abbrev pub with_move : ℕ → Option Move → List Step → List Step
with_move i None trace = trace
with_move i (Some move) trace = if i == move.number then move.step ∷ trace else trace

-- the trace of the connection with this number, the newest step first, as in all traces here
unfoldable pub core_of : ℕ → List HubStep → List Step
core_of i [] = []
core_of i (s ∷ before) = with_move i (move_of s) (core_of i before)
