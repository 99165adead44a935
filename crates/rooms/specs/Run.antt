-- What a list of events gives: the one trace of a hub, in the model's terms.
use Rattle.std.specs.Prelude.{◌≡◌, ℕ, List, [], ◌∷◌, ◌++◌, map, reverse, take, length, slice_get, Some, Result, Ok, Err, ⊤}
use Rattle.http_config.specs.Config.{Settings}
use Rattle.model_h1.specs.Setting.{Setting}
use Rattle.model_h1.specs.Sums.{written}
use Rattle.model_h1.specs.Text.{text}
use Rattle.h1_connection.specs.EventMeaning.{setting_of}
use Rattle.model_rooms.specs.Hub as model
use Rattle.model_rooms.specs.Hub.{open_count}
use Rattle.model_rooms.specs.Seen.{Seen, steps_of}
use Rattle.model_rooms.specs.Trace.{core_trace, IsHubTrace}
use Rattle.rooms.specs.Hub.{hub_event_of, SaysHubOutcome, IsRefused}
use Rattle.rooms.specs.Pair.{Pair}
use Rattle.rooms.specs.declared.event.HubEvent.{HubEvent}
use Rattle.rooms.specs.declared.driver.HubError.{HubError}
use Rattle.rooms.specs.declared.driver.HubError.TheVariants.{Misplaced, NoMemory}
use Rattle.rooms.specs.declared.driver.HubTrace.{HubTrace}

-- the step is that of the model
pub record SaysStep (step : Pair) (of_model : model.HubStep) : Type 0 where
  pub event : of_model.event ≡ hub_event_of step.event
  pub outcome : SaysHubOutcome step.outcome of_model.outcome

-- step by step, the oldest first in both
abbrev pub SaySteps : List Pair → List model.HubStep → Type 0
SaySteps [] [] = ⊤
SaySteps [] (t ∷ ts) = ⊥
SaySteps (s ∷ ss) [] = ⊥
SaySteps (s ∷ ss) (t ∷ ts) = SaysStep s t × SaySteps ss ts

-- The trace is the hub's: each event of each connection was allowed where it came, and its outcome is the table's, and the
-- event of each turn is that of the rules (traced, says). Its events are these. Of each connection, the bytes written, and
-- then those buffered, are the text.
pub record IsDriven (settings : Settings) (events : List HubEvent) (trace : HubTrace) (seen : List Seen) : Type 0 where
  pub traced : IsHubTrace (setting_of settings) seen
  pub says : SaySteps trace.steps.items (reverse (steps_of seen))
  pub events_are : map (λ (s : Pair). s.event) trace.steps.items ≡ events
  pub count : length trace.buffered.items ≡ open_count (steps_of seen)
  pub texts : (i : ℕ) (bytes : List ℕ) → slice_get trace.buffered.items i ≡ Some bytes
      → written (core_trace i seen) ++ bytes ≡ text (setting_of settings) (core_trace i seen)

-- every event was answered
pub record IsWhole (settings : Settings) (events : List HubEvent) (trace : HubTrace) : Type 0 where
  pub seen : List Seen
  pub driven : IsDriven settings events trace seen

-- the events before the one at the index were answered, and that one is refused after them
pub record IsMisplaced (settings : Settings) (events : List HubEvent) (index : ℕ) (trace : HubTrace) : Type 0 where
  pub seen : List Seen
  pub driven : IsDriven settings (take index events) trace seen
  pub event : HubEvent
  pub event_is : slice_get events index ≡ Some event
  pub refused : IsRefused (setting_of settings) seen (hub_event_of event)

-- why a run stopped
abbrev pub IsStop : Settings → List HubEvent → HubError → Type 0
IsStop settings events (Misplaced index trace) = IsMisplaced settings events index trace
IsStop settings events NoMemory = ⊤

-- ---- which of the two comes

-- the events of a trace, in the order in which they came
abbrev pub events_of : List Seen → List model.HubEvent
events_of seen = reverse (map (λ (s : Seen). s.step.event) seen)

-- each of the events is taken where it comes, and this is their trace
pub record TakesAll (setting : Setting) (events : List model.HubEvent) (seen : List Seen) : Type 0 where
  pub traced : IsHubTrace setting seen
  pub events_are : events_of seen ≡ events

-- the event at the index is refused where it comes, and this is the trace of those before it
pub record StopsAt (setting : Setting) (events : List model.HubEvent) (index : ℕ) (seen : List Seen) : Type 0 where
  pub before : TakesAll setting (take index events) seen
  pub event : model.HubEvent
  pub event_is : slice_get events index ≡ Some event
  pub refused : IsRefused setting seen event

-- there is a trace of all events
abbrev pub AreAllowed : Settings → List HubEvent → Type 0
AreAllowed settings events = (seen : List Seen) × TakesAll (setting_of settings) (map hub_event_of events) seen

-- the event at the index is the first that is refused
abbrev pub IsFirstRefused : Settings → List HubEvent → ℕ → Type 0
IsFirstRefused settings events index = (seen : List Seen) × StopsAt (setting_of settings) (map hub_event_of events) index seen

-- every event was answered, unless memory ran out
abbrev pub AnswersAll : Result HubTrace HubError → Type 0
AnswersAll (Ok trace) = ⊤
AnswersAll (Err (Misplaced index trace)) = ⊥
AnswersAll (Err NoMemory) = ⊤

-- the event at the index is the one that was refused, unless memory ran out
abbrev pub RefusesAt : ℕ → Result HubTrace HubError → Type 0
RefusesAt index (Ok trace) = ⊥
RefusesAt index (Err (Misplaced at trace)) = at ≡ index
RefusesAt index (Err NoMemory) = ⊤
