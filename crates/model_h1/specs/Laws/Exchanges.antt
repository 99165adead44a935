-- What a connection writes, request by request: each text is made of one exchange alone.
use Rattle.std.specs.Prelude.{ℕ, ◌+◌, Bool, true, false, ◌||◌, List, [], ◌∷◌, ◌++◌, length, reverse, if◌then◌else◌, Option, Some, None, option_to_list, flat_map, filter_map}
use Rattle.std.specs.Option.{option_or}
use Rattle.model_h1.specs.Request.{Head, Fault}
use Rattle.model_h1.specs.Setting.{Setting}
use Rattle.model_h1.specs.Answer.{Asked, asked_of, is_at_once, size_stream, Shape, shape_of}
use Rattle.model_h1.specs.AnswerText.{sent_piece, sent_end, interim_text, timeout_text}
use Rattle.model_h1.specs.Handshake.{accept_key_of, accepting_head}
use Rattle.model_h1.specs.Frame as frames
use Rattle.model_h1.specs.End as ends
use Rattle.model_h1.specs.Event.{Event, Outcome}
use Rattle.model_h1.specs.Event as on
use Rattle.model_h1.specs.Sums.{Step, Answered, answered_by, head_of, is_draining, now}
use Rattle.model_h1.specs.Text.{answer_head_text, fault_answer, message_text}

-- ---- an exchange

-- An answer: how it was handed in, the moment then, the pieces of its body in order, and whether the body was ended.
pub record AnswerGiven : Type 0 where
  pub answered : Answered
  pub moment : ℕ
  pub pieces : List (List ℕ)
  pub is_ended : Bool

-- A WebSocket: whether the connection was to end soon when it was accepted, the moment then, and the messages sent
-- on it, in order.
pub record Session : Type 0 where
  pub drained : Bool
  pub moment : ℕ
  pub sent : List frames.Message

-- what a request got: nothing yet, one answer, or a WebSocket
pub data Reply : Type 0 where
  no_reply : Reply
  answer_given : AnswerGiven → Reply
  session : Session → Reply

-- an answer that needs no body, or whose body was ended
abbrev pub is_whole : Reply → Bool
is_whole (answer_given a) = is_at_once a.answered.size || a.is_ended
is_whole _ = false

-- a head that was handed out, whether its client was told to go on, and what it got
pub record Exchange : Type 0 where
  pub head : Head
  pub was_told : Bool
  pub reply : Reply

-- ---- the text of an exchange

-- pieces of a body, where so many bytes of it came before them
unfoldable pub pieces_text : Asked → Shape → ℕ → List (List ℕ) → List ℕ
pieces_text asked shape before [] = []
pieces_text asked shape before (piece ∷ more) =
    sent_piece asked shape before piece ++ pieces_text asked shape (before + length piece) more

-- the pieces from the first on, and the end
abbrev pub body_text : Asked → Shape → AnswerGiven → List ℕ
body_text asked shape a = pieces_text asked shape 0 a.pieces ++ (if a.is_ended then sent_end asked shape else [])

-- the head of the answer, framed for this request, and its body; or a 101 and the frames
abbrev pub reply_text : Setting → Head → Reply → List ℕ
reply_text setting h no_reply = []
reply_text setting h (answer_given a) =
    answer_head_text setting a.answered.drained (asked_of h) a.answered.head a.answered.size a.moment
    ++ body_text (asked_of h) (shape_of (asked_of h) a.answered.head a.answered.size) a
reply_text setting h (session s) =
    answer_head_text setting s.drained (asked_of h) (accepting_head (accept_key_of h)) size_stream s.moment
    ++ flat_map message_text s.sent

-- the interim line and the reply
abbrev pub exchange_text : Setting → Exchange → List ℕ
exchange_text setting e = (if e.was_told then interim_text else []) ++ reply_text setting e.head e.reply

-- ---- the exchanges of a trace

-- a head that was just handed out
abbrev pub begun : Head → Exchange
begun h = record { head = h; was_told = false; reply = no_reply }

-- an answer that was just handed in
abbrev pub newly_given : Answered → ℕ → Reply
newly_given answered moment = answer_given (record { answered = answered; moment = moment; pieces = []; is_ended = false })

abbrev pub with_piece : List ℕ → Reply → Reply
with_piece bytes (answer_given a) = answer_given (record a { pieces = a.pieces ++ bytes ∷ [] })
with_piece bytes reply = reply

abbrev pub with_end : Reply → Reply
with_end (answer_given a) = answer_given (record a { is_ended = true })
with_end reply = reply

abbrev pub with_sent : frames.Message → Reply → Reply
with_sent m (session s) = session (record s { sent = s.sent ++ m ∷ [] })
with_sent m reply = reply

-- what a step makes of the exchange of the last head, behind the steps before
unfoldable pub changed_by : List Step → Event → Outcome → Exchange → Exchange
changed_by before on.send_continue on.done e = record e { was_told = true }
changed_by before (on.answer head size) on.done e =
    record e { reply = newly_given (record { head = head; size = size; drained = is_draining before }) (now before) }
changed_by before (on.chunk bytes) on.done e = record e { reply = with_piece bytes e.reply }
changed_by before on.body_end on.done e = record e { reply = with_end e.reply }
changed_by before (on.accept limit) on.done e =
    record e { reply = session (record { drained = is_draining before; moment = now before; sent = [] }) }
changed_by before (on.send m) on.done e = record e { reply = with_sent m e.reply }
changed_by before _ _ e = e

abbrev pub newest_changed : (Exchange → Exchange) → List Exchange → List Exchange
newest_changed change [] = []
newest_changed change (e ∷ es) = change e ∷ es

abbrev pub with_head : Option Head → List Exchange → List Exchange
with_head None es = es
with_head (Some h) es = begun h ∷ es

-- the exchanges behind one more step
abbrev pub exchanges_behind : List Step → Event → Outcome → List Exchange → List Exchange
exchanges_behind before event outcome es = with_head (head_of outcome) (newest_changed (changed_by before event outcome) es)

-- the exchanges of a trace, the newest first
unfoldable pub exchanges : List Step → List Exchange
exchanges [] = []
exchanges (s ∷ before) = exchanges_behind before s.event s.outcome (exchanges before)

-- their texts, the oldest first
abbrev pub exchanges_text : Setting → List Exchange → List ℕ
exchanges_text setting es = flat_map (exchange_text setting) (reverse es)

-- ---- the refusal

-- what a connection says of its own: that a head is faulty, or that none came in time; and the moment then
pub data Refusal : Type 0 where
  faulty_head : Fault → ℕ → Refusal
  too_slow : ℕ → Refusal

abbrev pub refusal_text : Option Refusal → List ℕ
refusal_text None = []
refusal_text (Some (faulty_head fault moment)) = fault_answer fault moment
refusal_text (Some (too_slow moment)) = timeout_text moment

-- the refusal of a step
unfoldable pub refused_by : List Step → Event → Outcome → Option Refusal
refused_by before on.next (on.fault fault) = Some (faulty_head fault (now before))
refused_by before (on.tick ms) (on.expired ends.slow_request) = Some (too_slow ms)
refused_by before _ _ = None

-- the first refusal of a trace
unfoldable pub refusal : List Step → Option Refusal
refusal [] = None
refusal (s ∷ before) = option_or (refusal before) (refused_by before s.event s.outcome)

-- ---- heads and answers, as they came

-- the heads that were handed out, the newest first
abbrev pub heads : List Step → List Head
heads trace = filter_map (λ s. head_of s.outcome) trace

-- the answers that were handed in, the newest first
unfoldable pub answers : List Step → List Answered
answers [] = []
answers (s ∷ before) = option_to_list (answered_by s.event (is_draining before)) ++ answers before

-- the answer of a reply, if it is one
abbrev pub answer_in : Reply → List Answered
answer_in (answer_given a) = a.answered ∷ []
answer_in _ = []

-- the answers of exchanges
abbrev pub answers_in : List Exchange → List Answered
answers_in es = flat_map (λ e. answer_in e.reply) es
