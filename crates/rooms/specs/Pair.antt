-- A step of a trace.
use Rattle.rooms.specs.declared.event.HubEvent.{HubEvent}
use Rattle.rooms.specs.declared.event.HubOutcome.{HubOutcome}

-- an event and its outcome
pub record Pair : Type 0 where
  pub event : HubEvent
  pub outcome : HubOutcome
