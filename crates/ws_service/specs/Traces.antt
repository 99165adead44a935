-- What the steps of a run are together: a trace of the connection, with the bytes that the transport moved, the frames that came and
-- the messages that were sent.
use Rattle.std.specs.Prelude.{◌≡◌, List, [], ◌∷◌, ◌++◌, map, ⊤, Option}
use Rattle.std.specs.List.{AllByRecursion}
use Rattle.http_bodies.specs.Told.{Grows}
use Rattle.ws_frames.specs.Sent.{message_says}
use Rattle.model_h1.specs.Event as on
use Rattle.model_h1.specs.Frame as said
use Rattle.model_h1.specs.Setting.{Setting}
use Rattle.model_h1.specs.Sums as sums
use Rattle.model_h1.specs.Sums.{taken, written}
use Rattle.model_h1.specs.Trace.{IsTrace}
use Rattle.h1_connection.specs.Steps.{Pair}
use Rattle.h1_traced.specs.Traced.{SaysNoted, TracedStands}
use Rattle.ws_service.specs.declared.item.UpgradeItem.{UpgradeItem}
use Rattle.ws_service.specs.declared.item.UpgradeItem.TheVariants as items
use Rattle.ws_service.specs.View.{View}
use Rattle.ws_service.specs.Steps.{Step, failed, unsent, failed_write, failed_read}
use Rattle.ws_service.specs.Order.{frames, sends}

-- memory didn't run out in this step
abbrev pub IsNoted : Step → Type 0
IsNoted (failed event) = ⊥
IsNoted (unsent message) = ⊥
IsNoted (failed_write count) = ⊥
IsNoted (failed_read came) = ⊥
IsNoted step = ⊤

abbrev pub AllNoted : List Step → Type 0
AllNoted steps = AllByRecursion IsNoted steps

-- what the steps of a trace give, the oldest first
abbrev pub gathered : {A : Type 0} → (sums.Step → List A) → List sums.Step → List A
gathered of_step [] = []
gathered of_step (s ∷ trace) = gathered of_step trace ++ of_step s

-- the frames that it hands out, as the service is called with them
abbrev pub of_frame : on.Outcome → List UpgradeItem
of_frame (on.frame frame) = items.Frame frame ∷ []
of_frame out = []

abbrev pub frames_in : List sums.Step → List UpgradeItem
frames_in trace = gathered (λ s. of_frame s.outcome) trace

-- the messages that it sends
abbrev pub of_message : on.Event → List said.Message
of_message (on.send message) = message ∷ []
of_message event = []

abbrev pub messages_in : List sums.Step → List said.Message
messages_in trace = gathered (λ s. of_message s.event) trace

-- After this trace these steps of the connection came, the newest first, and the connection and what was noted stand for all
-- of them. What the transport received is what their reads took, and what it sent is what was written. The frames that they hand
-- out came to the dispatcher, and the messages that they send are those that it sent.
pub record Follows (v w : View) (trace : List sums.Step) (came : List UpgradeItem) (gone : List said.Message) : Type 0 where
  pub more : List sums.Step
  pub stands : TracedStands w.traced (more ++ trace)
  pub received : Grows v.transport.received w.transport.received (taken more)
  pub sent_so : Grows v.transport.sent w.transport.sent (written more)
  pub came_so : frames_in more ≡ came
  pub gone_so : messages_in more ≡ gone

-- this holds after each trace that the connection stood for
abbrev pub AreTraces : View → List Step → View → Type 0
AreTraces v steps w = (trace : List sums.Step) → TracedStands v.traced trace → Follows v w trace (frames steps) (map message_says (sends steps))

-- What was noted is a trace of a connection with these settings, which has this one at its end, as the newest step comes first.
pub record NotesTrace (setting : Setting) (noted : Option (List Pair)) (trace : List sums.Step) : Type 0 where
  pub more : List sums.Step
  pub traced : IsTrace setting (more ++ trace)
  pub notes : SaysNoted noted (more ++ trace)
