-- A connection whose steps are noted, and the traces that it stands for.
use Rattle.std.specs.Prelude.{◌≡◌, ◌⊎◌, Bool, false, List, [], ◌∷◌, reverse, Option, Some, None, ⊤}
use Rattle.model_h1.specs.Event as on
use Rattle.model_h1.specs.Sums as sums
use Rattle.model_state.specs.Change.{IsStep}
use Rattle.http_bodies.specs.Told.{Grows}
use Rattle.h1_connection.specs.EventMeaning.{setting_of}
use Rattle.h1_connection.specs.Run.{SaySteps}
use Rattle.h1_connection.specs.State.{State, Stands, IsMarked, IsCounted, GoesOn, TakesNoMemory}
use Rattle.h1_connection.specs.Steps.{Pair}

-- a traced connection: its connection, and who notes the steps
pub record TracedParts (L : Type 0) : Type 0 where
  pub connection : State
  pub recorder : L

-- the connection; the steps that were noted, the oldest first, if they are known; and whether who notes them is told of them
pub record TracedView : Type 0 where
  pub state : State
  pub noted : Option (List Pair)
  pub listens : Bool

module _ {L : Type 0} where
  abbrev pub traced_of : (L → Option (List Pair)) → (L → Bool) → TracedParts L → TracedView
  traced_of noted listening traced = record { state = traced.connection; noted = noted traced.recorder; listens = listening traced.recorder }

-- what was noted is this trace, which has the newest step first
abbrev pub SaysNoted : Option (List Pair) → List sums.Step → Type 0
SaysNoted None trace = ⊤
SaysNoted (Some noted) trace = SaySteps noted (reverse trace)

-- the connection stands for the trace, and what was noted is that trace
pub record TracedStands (v : TracedView) (trace : List sums.Step) : Type 0 where
  pub stands : Stands v.state trace
  pub noted : SaysNoted v.noted trace

-- what was noted stays, and these steps were noted after it
abbrev pub Notes : Option (List Pair) → Option (List Pair) → Type 0
Notes was now = (more : List Pair) × Grows was now more

-- After this trace came that step: the traced connection stands for the longer trace, and the machine has such a step. The
-- places of the body bytes among those that wait, and the number of heads that were read ahead, stay those of the trace.
pub record Stepped (old : TracedView) (trace : List sums.Step) (s : sums.Step) (new : TracedView) : Type 0 where
  pub stands : TracedStands new (s ∷ trace)
  pub noted : Notes old.noted new.noted
  pub machine : IsStep (setting_of old.state.settings) old.state.kept s.event s.outcome new.state.kept
  pub marks : IsMarked old.state trace → IsMarked new.state (s ∷ trace)
  pub ahead : IsCounted old.state trace → IsCounted new.state (s ∷ trace)

-- After each trace that the traced connection stands for, the event came, and its outcome is such a one.
abbrev pub TracedSteps : TracedView → on.Event → (on.Outcome → Type 0) → TracedView → Type 0
TracedSteps old event Says new =
    (trace : List sums.Step) → TracedStands old trace
    → (out : on.Outcome) × Says out × Stepped old trace (record { event = event; outcome = out }) new

-- Memory ran out: nothing was noted. The connection is as it was, or the event came to it and couldn't be noted. Where nobody
-- listens, it ran out only for an event that takes memory.
pub record TracedFails (old : TracedView) (event : on.Event) (new : TracedView) : Type 0 where
  pub noted : Grows old.noted new.noted []
  pub connection : (new.state ≡ old.state) ⊎ GoesOn old.state event (λ out. ⊤) new.state
  pub memory : old.listens ≡ false → ¬ TakesNoMemory old.state event
