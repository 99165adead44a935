-- The steps of a trace: the events, and beside them what was noted of their outcomes.
use Rattle.std.specs.Prelude.{◌≡◌, List, [], ◌∷◌, ◌++◌}
use Rattle.h1_connection.specs.declared.event.Event.{Event}
use Rattle.h1_connection.specs.declared.event.Outcome.{Outcome}
use Rattle.h1_connection.specs.declared.event.Outcome.TheVariants as out
use Rattle.h1_connection.specs.declared.noted.Noted.{Noted}
use Rattle.h1_connection.specs.declared.noted.Noted.TheVariants.{Took, Head, Bytes, Trailers, Frame, BodyEnd, Pending, Closed, Fault, Broken, Protocol, Refused, Gave, Expired, Abandoned, Done}

-- an event and its outcome
pub record Pair : Type 0 where
  pub event : Event
  pub outcome : Outcome

-- the outcome that was noted
abbrev pub outcome_of : Noted → Outcome
outcome_of (Took count) = out.Took count
outcome_of (Head item) = out.Head item
outcome_of (Bytes bytes) = out.Bytes bytes
outcome_of (Trailers trailers) = out.Trailers trailers
outcome_of (Frame frame) = out.Frame frame
outcome_of BodyEnd = out.BodyEnd
outcome_of Pending = out.Pending
outcome_of (Closed end) = out.Closed end
outcome_of (Fault fault) = out.Fault fault
outcome_of (Broken error) = out.Broken error
outcome_of (Protocol error) = out.Protocol error
outcome_of (Refused error) = out.Refused error
outcome_of (Gave bytes) = out.Gave bytes
outcome_of (Expired end) = out.Expired end
outcome_of Abandoned = out.Abandoned
outcome_of Done = out.Done

-- an event beside its noted outcome
abbrev pub pair : Event → Noted → Pair
pair event noted = record { event = event; outcome = outcome_of noted }

-- each noted outcome behind its event, as far as there are both
abbrev pub paired : List Event → List Noted → List Pair
paired events [] = []
paired [] (n ∷ noted) = []
paired (event ∷ events) (n ∷ noted) = pair event n ∷ paired events noted

-- the outcome was noted behind the others
pub record Notes (before : List Noted) (outcome : Outcome) (after : List Noted) : Type 0 where
  pub last : Noted
  pub is_last : outcome_of last ≡ outcome
  pub are : after ≡ before ++ last ∷ []
