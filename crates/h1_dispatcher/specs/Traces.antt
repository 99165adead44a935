-- What the steps of a run are together: a trace of the connection, with the bytes that the transport moved, the requests and their
-- bodies that came, and the answers that were handed on.
use Rattle.std.specs.Prelude.{◌≡◌, List, [], ◌∷◌, ◌++◌, ⊤, Option, Some, None, Ok, Err}
use Rattle.std.specs.List.{AllByRecursion}
use Rattle.futures.specs.declared.task.Poll.TheVariants.{Ready, Pending}
use Rattle.http_bodies.specs.Giving.{Piece}
use Rattle.http_bodies.specs.declared.body.fault.BodyFault.TheVariants.{Body, NoMemory}
use Rattle.h1_payload.specs.Rests.{SaysPulled}
use Rattle.h1_payload.specs.declared.pulled.Pulled.{Pulled}
use Rattle.h1_payload.specs.declared.pulled.Pulled.TheVariants as pieces
use Rattle.h1_encoder.specs.Meaning.{answer_of, size_of}
use Rattle.h1_decoder.specs.HeadItem.{SaysHead}
use Rattle.h1_decoder.specs.declared.decoder.HeadItem.{HeadItem}
use Rattle.model_h1.specs.Event as on
use Rattle.model_h1.specs.Request.{Head}
use Rattle.http_bodies.specs.Told.{Grows}
use Rattle.model_h1.specs.Setting.{Setting}
use Rattle.model_h1.specs.Trace.{IsTrace}
use Rattle.h1_connection.specs.State.{IsMarked, IsCounted}
use Rattle.h1_connection.specs.Steps.{Pair}
use Rattle.model_h1.specs.Sums as sums
use Rattle.model_h1.specs.Sums.{taken, written}
use Rattle.h1_traced.specs.Traced.{SaysNoted, TracedStands}
use Rattle.h1_dispatcher.specs.View.{View, Asking}
use Rattle.h1_dispatcher.specs.Steps.{Step, asking_of, request_at, next, pulled, replied, sent, failed, failed_write, failed_read, failed_fed, failed_sent}

-- memory didn't run out in this step
abbrev pub IsNoted : Step → Type 0
IsNoted (failed event) = ⊥
IsNoted (failed_write count) = ⊥
IsNoted (failed_read came event) = ⊥
IsNoted (failed_fed bytes) = ⊥
IsNoted (failed_sent piece) = ⊥
IsNoted step = ⊤

abbrev pub AllNoted : List Step → Type 0
AllNoted steps = AllByRecursion IsNoted steps

-- the events that hand on an answer, or something of its body
abbrev pub of_answer : on.Event → List on.Event
of_answer (on.answer head size) = on.answer head size ∷ []
of_answer (on.chunk bytes) = on.chunk bytes ∷ []
of_answer on.body_end = on.body_end ∷ []
of_answer on.body_error = on.body_error ∷ []
of_answer event = []

-- those of a trace, the oldest first
abbrev pub answers_in : List sums.Step → List on.Event
answers_in [] = []
answers_in (s ∷ trace) = answers_in trace ++ of_answer s.event

-- those of a run: each answer with its head and the size of its body, and then what came of that
abbrev pub piece_hands : Piece → List on.Event
piece_hands (Ready (Some (Ok bytes))) = on.chunk bytes ∷ []
piece_hands (Ready (Some (Err (Body n)))) = on.body_error ∷ []
piece_hands (Ready (Some (Err NoMemory))) = []
piece_hands (Ready None) = on.body_end ∷ []
piece_hands Pending = []

abbrev pub step_hands : Step → List on.Event
step_hands (replied answer) = on.answer (answer_of answer.head) (size_of answer.body.size) ∷ []
step_hands (sent piece) = piece_hands piece
step_hands step = []

abbrev pub hands : List Step → List on.Event
hands [] = []
hands (d ∷ steps) = step_hands d ++ hands steps

-- what came of requests: their heads, and of each body pieces, its trailers, its end or its fault
abbrev pub of_request : on.Outcome → List on.Outcome
of_request (on.head h) = on.head h ∷ []
of_request (on.bytes bytes) = on.bytes bytes ∷ []
of_request (on.trailers headers) = on.trailers headers ∷ []
of_request on.body_ended = on.body_ended ∷ []
of_request (on.broken_by fault) = on.broken_by fault ∷ []
of_request out = []

-- that of a trace, the oldest first
abbrev pub requests_in : List sums.Step → List on.Outcome
requests_in [] = []
requests_in (s ∷ trace) = requests_in trace ++ of_request s.outcome

-- that of a run: each request, and behind it what came of its body
pub data Came : Type 0 where
  came_request : (asking : Asking) → Came
  came_piece : (given : Pulled) → Came

abbrev pub heads_of : Option Asking → List Came
heads_of None = []
heads_of (Some asking) = came_request asking ∷ []

abbrev pub pieces_of : Pulled → List Came
pieces_of (pieces.Bytes bytes) = came_piece (pieces.Bytes bytes) ∷ []
pieces_of (pieces.Trailers trailers) = came_piece (pieces.Trailers trailers) ∷ []
pieces_of pieces.End = came_piece pieces.End ∷ []
pieces_of (pieces.Broken fault) = came_piece (pieces.Broken fault) ∷ []
pieces_of pieces.Pending = []

abbrev pub step_came : Step → List Came
step_came (next peer head) = heads_of (request_at peer head)
step_came (pulled given) = pieces_of given
step_came step = []

abbrev pub came : List Step → List Came
came [] = []
came (d ∷ steps) = step_came d ++ came steps

-- the request is that of this head, beside the address that it has; the piece is this one
abbrev pub HasHead : Asking → Head → Type 0
HasHead asking h = (item : HeadItem) × SaysHead item h × (asking ≡ asking_of asking.head.peer_addr item.head)

abbrev pub IsCame : Came → on.Outcome → Type 0
IsCame (came_request asking) out = (h : Head) × (out ≡ on.head h) × HasHead asking h
IsCame (came_piece given) out = SaysPulled given out

-- each is the outcome at its place, and there is no other
abbrev pub AreCame : List Came → List on.Outcome → Type 0
AreCame [] [] = ⊤
AreCame [] (out ∷ outs) = ⊥
AreCame (c ∷ more) [] = ⊥
AreCame (c ∷ more) (out ∷ outs) = IsCame c out × AreCame more outs

-- After this trace these steps of the connection came, the newest first, and the connection and what was noted stand for
-- all of them. What the transport received is the bytes that their reads took, and what it sent is those that were written. What
-- they hand on of answers is this, and what they hand out of requests is that. The places of the body bytes among those that
-- wait, and the number of heads that were read ahead, stay those of the trace.
pub record Follows (v w : View) (trace : List sums.Step) (handed : List on.Event) (asked : List Came) : Type 0 where
  pub more : List sums.Step
  pub stands : TracedStands w.traced (more ++ trace)
  pub received : Grows v.transport.received w.transport.received (taken more)
  pub sent : Grows v.transport.sent w.transport.sent (written more)
  pub answers : answers_in more ≡ handed
  pub requests : AreCame asked (requests_in more)
  pub marks : IsMarked v.traced.state trace → IsMarked w.traced.state (more ++ trace)
  pub ahead : IsCounted v.traced.state trace → IsCounted w.traced.state (more ++ trace)

-- this holds after each trace that the connection stood for
abbrev pub AreTraces : View → List Step → View → Type 0
AreTraces v steps w = (trace : List sums.Step) → TracedStands v.traced trace → Follows v w trace (hands steps) (came steps)

-- What was noted is a trace of a connection with these settings, which has this one at its end, as the newest step comes first.
pub record NotesTrace (setting : Setting) (noted : Option (List Pair)) (trace : List sums.Step) : Type 0 where
  pub more : List sums.Step
  pub traced : IsTrace setting (more ++ trace)
  pub notes : SaysNoted noted (more ++ trace)
