-- Which parts of replies are put towards a client, and what a server's connection hands out: step by step.
use Rattle.std.specs.Prelude.{ℕ, Bool, not, ◌&&◌, ◌||◌, ◌==◌, if◌then◌else◌, List, [], ◌∷◌, ◌++◌}
use Rattle.model_h1.specs.Answer.{AnswerHead, BodySize}
use Rattle.model_h1.specs.Event as on
use Rattle.model_h1.specs.Request.{Head}
use Rattle.model_h1.specs.Sums.{Step}
use Rattle.model_client.specs.AnswerParse.{is_interim}
use Rattle.model_client.specs.AnswerReading.{Answer}
use Rattle.model_client.specs.ClientEvent as asked
use Rattle.model_client.specs.ClientEvent.{ClientRequest}
use Rattle.model_client.specs.ClientTrace.{Happened}

-- ---- the client's side

-- the head of a reply, and its size
pub record Put : Type 0 where
  pub head : AnswerHead
  pub size : BodySize

-- What the client's connection is told of a reply: its head, a piece of its body, its end, or that it is cut. And what else counts of what is
-- done there: that a head was handed out, bytes of its request's body, or its end; that the client was told to go on; that the request's body was
-- found broken, or cut; that its rest was left; that the connection told that it has closed; and any event that isn't one of a forwarder's calls in
-- between, as bytes that are read, or an upgrade.
pub data Part : Type 0 where
  begins : Put → Part
  continues : List ℕ → Part
  ends breaks_off goes_on : Part
  hands : Head → Part
  takes : List ℕ → Part
  takes_end : Part
  request_breaks : on.BodyFault → Part
  leaves_rest has_closed other_event : Part

abbrev pub parts_told : on.Outcome → List Part
parts_told (on.head h) = hands h ∷ []
parts_told (on.bytes bytes) = takes bytes ∷ []
parts_told on.body_ended = takes_end ∷ []
parts_told (on.broken_by fault) = request_breaks fault ∷ []
parts_told (on.closed end) = has_closed ∷ []
parts_told (on.took n) = other_event ∷ []
parts_told (on.gave bytes) = other_event ∷ []
parts_told o = []

-- asked for the next head or more of a body, the connection is told nothing of a reply
abbrev pub parts_by : on.Event → on.Outcome → List Part
parts_by (on.answer head size) o = begins (record { head = head; size = size }) ∷ []
parts_by (on.chunk bytes) o = continues bytes ∷ []
parts_by on.body_end o = ends ∷ []
parts_by on.body_error o = breaks_off ∷ []
parts_by on.drop_body o = leaves_rest ∷ []
parts_by on.next o = parts_told o
parts_by on.pull o = parts_told o
parts_by on.send_continue o = goes_on ∷ []
parts_by event o = other_event ∷ []

-- these parts of all steps, the newest first
unfoldable pub parts_of : List Step → List Part
parts_of [] = []
parts_of (s ∷ before) = parts_by s.event s.outcome ++ parts_of before

-- ---- a server's side

-- an answer that is never passed on: its head was read only with blanks passed over, or it goes over to another protocol
abbrev pub is_refused : Answer → Bool
is_refused a = a.is_lax || (a.status == 101)

-- and one that is
abbrev pub is_good : Answer → Bool
is_good a = not (is_refused a) && not (is_interim a.status)

-- What a server's connection hands out of its answers: the head of one to be passed on, or of one that never is; bytes of a body, its end, or
-- its fault; a fault instead of a head, or that it has closed. What it is asked: a request, more of its body, and its end. And any event on it that
-- isn't one of a forwarder's calls in between, as bytes that are read, or a request that is given up.
pub data Handed : Type 0 where
  asks : ClientRequest → BodySize → Handed
  sends : List ℕ → Handed
  sends_end : Handed
  good_answer refused_answer : Answer → Handed
  body_bytes : List ℕ → Handed
  body_end : Handed
  body_fault : on.BodyFault → Handed
  head_fault server_closed other_server_event : Handed

-- an interim answer is passed over
abbrev pub answer_out : Answer → List Handed
answer_out a = if is_refused a then refused_answer a ∷ [] else (if is_interim a.status then [] else good_answer a ∷ [])

abbrev pub handed_out : asked.ClientOutcome → List Handed
handed_out (asked.answer a) = answer_out a
handed_out (asked.fault fault) = head_fault ∷ []
handed_out (asked.closed end) = server_closed ∷ []
handed_out (asked.bytes bytes) = body_bytes bytes ∷ []
handed_out asked.body_ended = body_end ∷ []
handed_out (asked.broken_by fault) = body_fault fault ∷ []
handed_out o = []

-- a moment that is told counts for nothing
abbrev pub handed_by : asked.ClientEvent → asked.ClientOutcome → List Handed
handed_by asked.next o = handed_out o
handed_by asked.pull o = handed_out o
handed_by (asked.ask request size) o = asks request size ∷ []
handed_by (asked.chunk bytes) o = sends bytes ∷ []
handed_by asked.body_end o = sends_end ∷ []
handed_by (asked.tick moment) o = []
handed_by event o = other_server_event ∷ []

-- what was handed out in these steps, the newest first
unfoldable pub handed_of : List Happened → List Handed
handed_of [] = []
handed_of (s ∷ before) = handed_by s.event s.outcome ++ handed_of before
