-- What the steps of a run keep in order.
use Rattle.std.specs.Prelude.{◌≡◌, ◌+◌, ℕ, length, List, [], ◌∷◌, ◌++◌, Result, Ok, Err}
use Rattle.futures.specs.declared.task.Poll.{Poll}
use Rattle.futures.specs.declared.task.Poll.TheVariants.{Ready, Pending}
use Rattle.http_types.specs.declared.error.Error.{Error}
use Rattle.http_bodies.specs.Told.{Grows}
use Rattle.http_services.specs.Serving.{given}
use Rattle.http_types.specs.Request.{RequestParts}
use Rattle.ws_frames.specs.declared.message.Message.{Message}
use Rattle.ws_service.specs.declared.item.UpgradeItem.{UpgradeItem}
use Rattle.ws_service.specs.declared.item.UpgradeItem.TheVariants as items
use Rattle.ws_service.specs.declared.dispatcher.serve_frames.Given.{Given}
use Rattle.ws_service.specs.declared.dispatcher.serve_frames.Given.TheVariants.{Frame, Nothing, Other}
use Rattle.ws_service.specs.View.{View, Stage, free, waiting, calling, sending}
use Rattle.ws_service.specs.Steps.{Step, pulled, called, answered, sent, unsent}

-- what waits for the service, and the answer that waits to be sent
abbrev pub waits_in : Stage → List UpgradeItem
waits_in free = []
waits_in (waiting item) = item ∷ []
waits_in calling = []
waits_in (sending message) = []

abbrev pub unsent_in : Stage → List Message
unsent_in free = []
unsent_in (waiting item) = []
unsent_in calling = []
unsent_in (sending message) = message ∷ []

-- how many calls are in progress
abbrev pub calls_in : Stage → ℕ
calls_in free = 0
calls_in (waiting item) = 0
calls_in calling = 1
calls_in (sending message) = 0

-- the frames that came
abbrev pub frames_given : Given → List UpgradeItem
frames_given (Frame frame) = items.Frame frame ∷ []
frames_given Nothing = []
frames_given Other = []

abbrev pub step_frames : Step → List UpgradeItem
step_frames (pulled got) = frames_given got
step_frames step = []

-- what the service was called with, what it answered, also where that is an error, and the messages among that
abbrev pub step_calls : Step → List UpgradeItem
step_calls (called item) = item ∷ []
step_calls step = []

abbrev pub step_answers : Step → List (Result Message Error)
step_answers (answered answer) = given answer
step_answers step = []

abbrev pub message_given : Poll (Result Message Error) → List Message
message_given (Ready (Ok message)) = message ∷ []
message_given (Ready (Err e)) = []
message_given Pending = []

abbrev pub step_messages : Step → List Message
step_messages (answered answer) = message_given answer
step_messages step = []

-- the messages that were sent; of one for which memory ran out nothing is left
abbrev pub step_sent : Step → List Message
step_sent (sent message) = message ∷ []
step_sent (unsent message) = message ∷ []
step_sent step = []

-- of all steps
abbrev pub all_of : {A : Type 0} → (Step → List A) → List Step → List A
all_of of_step [] = []
all_of of_step (d ∷ steps) = of_step d ++ all_of of_step steps

abbrev pub frames : List Step → List UpgradeItem
frames steps = all_of step_frames steps

abbrev pub calls : List Step → List UpgradeItem
calls steps = all_of step_calls steps

abbrev pub answers : List Step → List (Result Message Error)
answers steps = all_of step_answers steps

abbrev pub messages : List Step → List Message
messages steps = all_of step_messages steps

abbrev pub sends : List Step → List Message
sends steps = all_of step_sent steps

-- The service is called with the frames that came, in order and once each, after what waited before; the last one may wait.
-- Each call has one answer, but for the one that is in progress. What is sent are the messages that it answered, in order and once
-- each; the last one may wait. What the service tells of its calls and answers grows by those of the steps.
pub record KeepsOrder (v : View) (steps : List Step) (w : View) : Type 0 where
  pub waits : waits_in v.stage ++ frames steps ≡ calls steps ++ waits_in w.stage
  pub each : calls_in v.stage + length (calls steps) ≡ length (answers steps) + calls_in w.stage
  pub sent_so : unsent_in v.stage ++ messages steps ≡ sends steps ++ unsent_in w.stage
  pub called_so : Grows v.service.called w.service.called (calls steps)
  pub answered_so : Grows v.service.answered w.service.answered (answers steps)

-- From a new dispatcher on: the service is called with the request first, and then with the frames.
pub record StartsWith (request : RequestParts Unit Unit) (steps : List Step) (w : View) : Type 0 where
  pub waits : items.Open request ∷ frames steps ≡ calls steps ++ waits_in w.stage
  pub sent_so : messages steps ≡ sends steps ++ unsent_in w.stage

-- Nothing is left: the service was called with the request and with every frame that came, each call has its answer, and every message
-- among the answers was sent.
pub record AllAnswered (request : RequestParts Unit Unit) (steps : List Step) : Type 0 where
  pub called_so : items.Open request ∷ frames steps ≡ calls steps
  pub each : length (calls steps) ≡ length (answers steps)
  pub sent_so : messages steps ≡ sends steps
