-- What the steps of a run keep in order.
use Rattle.std.specs.Prelude.{◌≡◌, ◌+◌, ℕ, List, [], ◌∷◌, ◌++◌, length, option_to_list, Result, Ok, Err}
use Rattle.futures.specs.declared.task.Poll.{Poll}
use Rattle.futures.specs.declared.task.Poll.TheVariants.{Ready, Pending}
use Rattle.http_bodies.specs.Told.{Grows}
use Rattle.http_services.specs.Serving as services
use Rattle.h1_dispatcher.specs.View.{View, Asking, Answer, Stage, free, waiting, calling, replying, sending}
use Rattle.h1_dispatcher.specs.Steps.{Step, request_at, next, ready, called, answered, replied, turned_away}

-- the request that waits for the service, the answer that wasn't handed on, and how many calls are in progress
abbrev pub waits_in : Stage → List Asking
waits_in free = []
waits_in (waiting request) = request ∷ []
waits_in (calling took) = []
waits_in (replying answer) = []
waits_in (sending body) = []

abbrev pub reply_in : Stage → List Answer
reply_in free = []
reply_in (waiting request) = []
reply_in (calling took) = []
reply_in (replying answer) = answer ∷ []
reply_in (sending body) = []

abbrev pub calls_in : Stage → ℕ
calls_in free = 0
calls_in (waiting request) = 0
calls_in (calling took) = 1
calls_in (replying answer) = 0
calls_in (sending body) = 0

-- the requests of the heads that were handed out
abbrev pub step_requests : Step → List Asking
step_requests (next peer head) = option_to_list (request_at peer head)
step_requests step = []

-- the requests that the service was called with
abbrev pub step_calls : Step → List Asking
step_calls (called request) = request ∷ []
step_calls step = []

-- a failure of the service's readiness refuses the request with which the service was to be called, and its error is the
-- answer
abbrev pub refused : Asking → Poll (Result Unit Answer) → List Asking
refused request (Ready (Ok x)) = []
refused request (Ready (Err e)) = request ∷ []
refused request Pending = []

abbrev pub refusals : Poll (Result Unit Answer) → List Answer
refusals (Ready (Ok x)) = []
refusals (Ready (Err e)) = e ∷ []
refusals Pending = []

-- what a call answers, also where it is an error
abbrev pub given : Poll (Result Answer Answer) → List Answer
given (Ready (Ok x)) = x ∷ []
given (Ready (Err e)) = e ∷ []
given Pending = []

-- the requests that wait no more: those that the service was called with, those that were refused, one by each failure, and
-- those that were turned away
abbrev pub step_left : Step → List Asking
step_left (ready request answer) = refused request answer
step_left (called request) = request ∷ []
step_left (turned_away request answer) = request ∷ []
step_left step = []

-- the answers to be handed on: those of calls, errors of the service's readiness, and those of requests that were turned away
abbrev pub step_answers : Step → List Answer
step_answers (ready request answer) = refusals answer
step_answers (answered answer) = given answer
step_answers (turned_away request answer) = answer ∷ []
step_answers step = []

-- what the calls answered, as answers or as errors
abbrev pub step_results : Step → List (Result Answer Answer)
step_results (answered answer) = services.given answer
step_results step = []

-- the answers that were handed on
abbrev pub step_replies : Step → List Answer
step_replies (replied answer) = answer ∷ []
step_replies step = []

abbrev pub requests : List Step → List Asking
requests [] = []
requests (d ∷ steps) = step_requests d ++ requests steps

abbrev pub calls : List Step → List Asking
calls [] = []
calls (d ∷ steps) = step_calls d ++ calls steps

abbrev pub left : List Step → List Asking
left [] = []
left (d ∷ steps) = step_left d ++ left steps

abbrev pub answers : List Step → List Answer
answers [] = []
answers (d ∷ steps) = step_answers d ++ answers steps

abbrev pub results : List Step → List (Result Answer Answer)
results [] = []
results (d ∷ steps) = step_results d ++ results steps

abbrev pub replies : List Step → List Answer
replies [] = []
replies (d ∷ steps) = step_replies d ++ replies steps

-- Requests are called, or refused, in the order in which their heads were handed out, and the last one may wait. Each of
-- them has one answer, but for the last one while its call is in progress. Answers are handed on in the order in which they
-- came, all of them, and the last one may wait. What the service tells of its calls grows by those of the steps, and what it
-- tells of its answers by what these calls answered.
pub record KeepsOrder (v : View) (steps : List Step) (w : View) : Type 0 where
  pub waits : waits_in v.stage ++ requests steps ≡ left steps ++ waits_in w.stage
  pub each : calls_in v.stage + length (left steps) ≡ length (answers steps) + calls_in w.stage
  pub replied : reply_in v.stage ++ answers steps ≡ replies steps ++ reply_in w.stage
  pub called : Grows v.service.called w.service.called (calls steps)
  pub answered : Grows v.service.answered w.service.answered (results steps)
