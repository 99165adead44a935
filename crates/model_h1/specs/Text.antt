-- The text that a connection writes: the texts of its steps, in order.
use Rattle.std.specs.Prelude.{ℕ, Bool, List, [], ◌∷◌, ◌++◌, length, drop, Option, Some, None}
use Rattle.model_h1.specs.Request.{Head, Fault, malformed, too_large}
use Rattle.model_h1.specs.Setting.{Setting}
use Rattle.model_h1.specs.Answer.{AnswerHead, Asked, asked_of, BodySize, size_stream, shape_of, type_of}
use Rattle.model_h1.specs.AnswerText.{head_text, sent_piece, sent_end, interim_text, bad_request_text, too_large_text, timeout_text}
use Rattle.model_h1.specs.Handshake.{accept_key_of, accepting_head}
use Rattle.model_h1.specs.Frame as frames
use Rattle.model_h1.specs.FrameText.{frame_text}
use Rattle.model_h1.specs.Event.{Event, Outcome}
use Rattle.model_h1.specs.End as ends
use Rattle.model_h1.specs.End.{End}
use Rattle.model_h1.specs.Event as on
use Rattle.model_h1.specs.Sums.{Step, Answered, request, answered, answer_len, is_draining, now, written}

-- the head of an answer at a moment, and whether the connection is to end soon by then
abbrev pub answer_head_text : Setting → Bool → Asked → AnswerHead → BodySize → ℕ → List ℕ
answer_head_text setting drained asked answer size now =
    head_text asked.minor answer (shape_of asked answer size) size (type_of setting drained asked answer size) now

-- the head of an answer to the last request
abbrev pub answer_text : Setting → List Step → AnswerHead → BodySize → Option Head → List ℕ
answer_text setting before answer size None = []
answer_text setting before answer size (Some h) =
    answer_head_text setting (is_draining before) (asked_of h) answer size (now before)

-- what of a piece of the body goes out, and what ends it
abbrev pub chunk_sent : ℕ → List ℕ → Option Head → Option Answered → List ℕ
chunk_sent before bytes (Some h) (Some a) = sent_piece (asked_of h) (shape_of (asked_of h) a.head a.size) before bytes
chunk_sent before bytes _ _ = []

abbrev pub end_sent : Option Head → Option Answered → List ℕ
end_sent (Some h) (Some a) = sent_end (asked_of h) (shape_of (asked_of h) a.head a.size)
end_sent _ _ = []

-- the answer that accepts a WebSocket
abbrev pub accept_text : Setting → List Step → Option Head → List ℕ
accept_text setting before None = []
accept_text setting before (Some h) = answer_text setting before (accepting_head (accept_key_of h)) size_stream (Some h)

abbrev pub fault_answer : Fault → ℕ → List ℕ
fault_answer malformed now = bad_request_text now
fault_answer too_large now = too_large_text now

-- a request that is too slow is answered, with the moment of this tick; a connection that is only kept isn't
abbrev pub expiry_text : End → ℕ → List ℕ
expiry_text ends.slow_request ms = timeout_text ms
expiry_text _ ms = []

abbrev pub message_text : frames.Message → List ℕ
message_text (frames.frame f) = frame_text f
message_text frames.nop = []

-- what a step adds to the text
unfoldable pub step_text : Setting → List Step → Event → Outcome → List ℕ
step_text setting before (on.answer head size) on.done = answer_text setting before head size (request before)
step_text setting before (on.chunk bytes) on.done = chunk_sent (answer_len before) bytes (request before) (answered before)
step_text setting before on.body_end on.done = end_sent (request before) (answered before)
step_text setting before on.send_continue on.done = interim_text
step_text setting before (on.accept limit) on.done = accept_text setting before (request before)
step_text setting before (on.send m) on.done = message_text m
step_text setting before on.next (on.fault f) = fault_answer f (now before)
step_text setting before (on.tick ms) (on.expired end) = expiry_text end ms
step_text setting before _ _ = []

-- all that is to be written so far
unfoldable pub text : Setting → List Step → List ℕ
text setting [] = []
text setting (s ∷ before) = text setting before ++ step_text setting before s.event s.outcome

-- what is to be written and wasn't handed out yet
abbrev pub buffered : Setting → List Step → List ℕ
buffered setting trace = drop (length (written trace)) (text setting trace)
