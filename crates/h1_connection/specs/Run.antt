-- What a list of events gives: the one trace of a connection, in the model's terms.
use Rattle.std.specs.Prelude.{◌≡◌, ℕ, List, [], ◌∷◌, ◌++◌, map, reverse, take, slice_get, Some, option_map, Result, Ok, Err, ⊤}
use Rattle.http_config.specs.Config.{Settings}
use Rattle.model_h1.specs.Parse as parsed
use Rattle.model_h1.specs.Parse.{IsParse}
use Rattle.model_h1.specs.Sums as sums
use Rattle.model_h1.specs.Sums.{written}
use Rattle.model_h1.specs.Past.{ParsedStep, input_of}
use Rattle.model_h1.specs.Handed.{HandsOutPrefix}
use Rattle.model_h1.specs.Text.{text}
use Rattle.model_h1.specs.Closing.{closing}
use Rattle.model_h1.specs.Trace as traces
use Rattle.model_h1.specs.Trace.{IsTrace, IsPastOf}
use Rattle.model_h1.specs.Laws.Runs as runs
use Rattle.h1_connection.specs.EventMeaning.{setting_of, event_of, end_of, SaysOutcome}
use Rattle.h1_connection.specs.declared.error.DriveError.{DriveError}
use Rattle.h1_connection.specs.declared.error.DriveError.TheVariants.{Misplaced, NoMemory}
use Rattle.h1_connection.specs.declared.event.Event.{Event}
use Rattle.h1_connection.specs.declared.trace.Step.{Step}
use Rattle.h1_connection.specs.declared.trace.Trace.{Trace}

-- the step is that of the model
pub record SaysStep (step : Step) (of_model : sums.Step) : Type 0 where
  pub event : of_model.event ≡ event_of step.event
  pub outcome : SaysOutcome step.outcome of_model.outcome

-- step by step, the oldest first in both
abbrev pub SaySteps : List Step → List sums.Step → Type 0
SaySteps [] [] = ⊤
SaySteps [] (t ∷ ts) = ⊥
SaySteps (s ∷ ss) [] = ⊥
SaySteps (s ∷ ss) (t ∷ ts) = SaysStep s t × SaySteps ss ts

-- The trace is the connection's: each event was allowed where it came, and its outcome is the table's (traced, says).
-- Its events are these. What it handed out is the beginning of the parse of the bytes taken; the bytes written, and
-- then those buffered, are the text; and why it closes is what the tables say.
pub record IsDriven (settings : Settings) (events : List Event) (trace : Trace) (model : List sums.Step) : Type 0 where
  pub traced : IsTrace (setting_of settings) model
  pub says : SaySteps trace.steps (reverse model)
  pub events_are : map (λ (s : Step). s.event) trace.steps ≡ events
  pub handed : (parse : List parsed.Message) → IsParse (input_of (setting_of settings) model) parse → HandsOutPrefix (setting_of settings) model parse
  pub text_is : written model ++ trace.buffered ≡ text (setting_of settings) model
  pub closing_is : (past : List ParsedStep) → IsPastOf (setting_of settings) model past → option_map end_of trace.closing ≡ closing (setting_of settings) past

-- every event was answered
pub record IsWhole (settings : Settings) (events : List Event) (trace : Trace) : Type 0 where
  pub model : List sums.Step
  pub driven : IsDriven settings events trace model

-- the events before the one at the index were answered, and that one isn't allowed behind them
pub record IsMisplaced (settings : Settings) (events : List Event) (index : ℕ) (trace : Trace) : Type 0 where
  pub model : List sums.Step
  pub driven : IsDriven settings (take index events) trace model
  pub event : Event
  pub event_is : slice_get events index ≡ Some event
  pub refused : traces.IsMisplaced (setting_of settings) model (event_of event)

-- why a run stopped
abbrev pub IsStop : Settings → List Event → DriveError → Type 0
IsStop settings events (Misplaced index trace) = IsMisplaced settings events index trace
IsStop settings events NoMemory = ⊤

-- ---- which of the two comes

-- each of the events is allowed where it comes: there is a trace of all of them
abbrev pub AreAllowed : Settings → List Event → Type 0
AreAllowed settings events = (model : List sums.Step) × runs.IsWhole (setting_of settings) (map event_of events) model

-- the event at the index is the first that isn't: there is a trace of those before it, and it isn't allowed behind that
abbrev pub IsFirstRefused : Settings → List Event → ℕ → Type 0
IsFirstRefused settings events index = (model : List sums.Step) × runs.StopsAt (setting_of settings) (map event_of events) index model

-- every event was answered, but for want of memory
abbrev pub AnswersAll : Result Trace DriveError → Type 0
AnswersAll (Ok trace) = ⊤
AnswersAll (Err (Misplaced index trace)) = ⊥
AnswersAll (Err NoMemory) = ⊤

-- the event at the index is the one that was refused, but for want of memory
abbrev pub RefusesAt : ℕ → Result Trace DriveError → Type 0
RefusesAt index (Ok trace) = ⊥
RefusesAt index (Err (Misplaced at trace)) = at ≡ index
RefusesAt index (Err NoMemory) = ⊤
