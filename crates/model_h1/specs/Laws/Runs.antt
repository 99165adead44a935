-- What becomes of a list of events that come one after another, up to the first that isn't allowed.
use Rattle.std.specs.Prelude.{◌≡◌, ℕ, List, map, reverse, take, slice_get, Some}
use Rattle.model_h1.specs.Setting.{Setting}
use Rattle.model_h1.specs.Event.{Event}
use Rattle.model_h1.specs.Sums.{Step}
use Rattle.model_h1.specs.Trace.{IsMisplaced, IsTrace}

-- the events of a trace, in the order in which they came
abbrev pub events_of : List Step → List Event
events_of trace = reverse (map (λ s. s.event) trace)

-- each event was allowed where it came, and this is their trace
pub record IsWhole (setting : Setting) (events : List Event) (trace : List Step) : Type 0 where
  pub traced : IsTrace setting trace
  pub events_are : events_of trace ≡ events

-- the event at the index isn't allowed where it comes, and this is the trace of those before it
pub record StopsAt (setting : Setting) (events : List Event) (index : ℕ) (trace : List Step) : Type 0 where
  pub before : IsWhole setting (take index events) trace
  pub event : Event
  pub event_is : slice_get events index ≡ Some event
  pub refused : IsMisplaced setting trace event
