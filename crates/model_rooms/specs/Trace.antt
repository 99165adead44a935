-- The traces of a hub: each step is one of its connection, the event of a turn is that of the rules, and connections
-- have the numbers from 0 on.
use Rattle.std.specs.Prelude.{◌≡◌, ℕ, ◌<◌, Bool, true, false, List, [], ◌∷◌, IsTrue, is_some, ⊤}
use Rattle.model_h1.specs.Setting.{Setting}
use Rattle.model_h1.specs.Event.{Event, Outcome}
use Rattle.model_h1.specs.Event as on
use Rattle.model_h1.specs.Sums.{Step}
use Rattle.model_h1.specs.Past.{ParsedStep}
use Rattle.model_h1.specs.Closing.{closing}
use Rattle.model_h1.specs.Trace.{IsPastOf, IsAllowed, IsOutcome}
use Rattle.model_rooms.specs.Hub.{HubEvent, opens, feeds, turns, HubOutcome, opened, core, MAX_CONNECTIONS, open_count, core_of}
use Rattle.model_rooms.specs.Seen.{Seen, steps_of, row_of}
use Rattle.model_rooms.specs.Turn.{turn_event}

-- the events that come from outside; the others are a turn's
abbrev pub is_fed : Event → Bool
is_fed (on.read bytes) = true
is_fed on.eof = true
is_fed on.drain = true
is_fed (on.write n) = true
is_fed (on.tick ms) = true
is_fed _ = false

-- the trace of the connection with this number
abbrev pub core_trace : ℕ → List Seen → List Step
core_trace i seen = core_of i (steps_of seen)

-- this is the event of a turn that the connection with this number has
abbrev pub IsTurnEvent : Setting → List Seen → ℕ → Event → Type 0
IsTurnEvent setting before i event =
    (past : List ParsedStep) × IsPastOf setting (core_trace i before) past × (event ≡ turn_event setting past (row_of i before).waiting)

-- whether the connection closes after this trace
abbrev pub Closes : Setting → List Step → Bool → Type 0
Closes setting trace closes =
    (past : List ParsedStep) × IsPastOf setting trace past × (closes ≡ is_some (closing setting past))

-- the connection with this number goes on by one step
pub record GoesOn (setting : Setting) (before : List Seen) (i : ℕ) (event : Event) (outcome : Outcome) (closes : Bool) : Type 0 where
  pub known : i < open_count (steps_of before)
  pub allowed : IsAllowed setting (core_trace i before) event
  pub answers : IsOutcome setting (core_trace i before) event outcome
  pub closing_is : Closes setting (record { event = event; outcome = outcome } ∷ core_trace i before) closes

-- the step may follow those before it
abbrev pub IsHubStep : Setting → List Seen → HubEvent → HubOutcome → Bool → Type 0
IsHubStep setting before opens (opened n) closes =
    (open_count (steps_of before) < MAX_CONNECTIONS) × (n ≡ open_count (steps_of before)) × (closes ≡ false)
IsHubStep setting before (feeds i given) (core event outcome) closes =
    (event ≡ given) × IsTrue (is_fed given) × GoesOn setting before i event outcome closes
IsHubStep setting before (turns i) (core event outcome) closes =
    IsTurnEvent setting before i event × GoesOn setting before i event outcome closes
IsHubStep setting before _ _ closes = ⊥

-- the steps are those of a hub whose connections all have this setting
abbrev pub IsHubTrace : Setting → List Seen → Type 0
IsHubTrace setting [] = ⊤
IsHubTrace setting (s ∷ before) = IsHubStep setting before s.step.event s.step.outcome s.closes × IsHubTrace setting before
