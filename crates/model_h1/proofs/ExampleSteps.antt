-- The worked examples' pasts are those of traces: they are given step by step, and share their first steps.
use Rattle.std.proofs.Common.{List, [], ◌∷◌, codes, false, refl}
use Rattle.std.specs.Fmt.{digits}
use Rattle.model_h1.specs.Setting.{Setting}
use Rattle.model_h1.specs.Answer.{size_of}
use Rattle.model_h1.specs.AnswerText.{year_at, month_at, date_of, appended, head_text}
use Rattle.model_h1.specs.Event as on
use Rattle.model_h1.specs.Sums.{taken, written, accepted, last_tick, first_tick, request, since_head, answered, answer_len}
use Rattle.model_h1.specs.Past.{ParsedStep, steps, place_behind, pulled_to}
use Rattle.model_h1.specs.Text.{step_text, text}
use Rattle.model_h1.specs.Closing.{told, closing}
use Rattle.model_h1.specs.Allowed.{is_allowed}
use Rattle.model_h1.specs.OutcomeTable.{outcome_of}
use Rattle.model_h1.specs.Trace.{IsPastOf}
use Rattle.model_h1.specs.Laws.ExampleTraces.{usual, Happens, parsed, get_text, get_head, get, close_text, close_head, closing_get, post_text, post_head, open_post, chunks_text, chunks_head, open_chunks, broken_text, broken_chunks, socket_text, socket_head, socket, ok}
use Rattle.model_h1.proofs.PastLemmas.{Legal}
use Rattle.model_h1.proofs.ExampleLemmas.{nothing_behind}
use Rattle.model_h1.proofs.ExampleParses.{get_parsed, close_parsed, post_parsed, chunks_parsed, broken_parsed, socket_parsed}

-- a legal past is the past of a trace
pub happens : (setting : Setting) (past : List ParsedStep) → Legal setting past → Happens setting past
happens setting [] x = record { trace = tt; right = tt }
happens setting (m ∷ before) x =
    let behind = happens setting before x.3 in
    let here : IsPastOf setting (steps before) before = record { same = refl; right = behind.right } in
    record { trace = ((before, here, x.1), (before, here, x.2), behind.trace); right = (x.0, behind.right) }

-- ---- the request without a body

-- it is read
pub get_taken : Legal usual (parsed (on.read get_text) (on.took 27) (get ∷ []) ∷ [])
unfolding taken accepted request since_head answered answer_len place_behind pulled_to told closing is_allowed outcome_of
get_taken = (get_parsed false, refl, refl, tt)

-- its head is handed out
pub get_asked : Legal usual (parsed on.next (on.head get_head) (get ∷ []) ∷ parsed (on.read get_text) (on.took 27) (get ∷ []) ∷ [])
unfolding taken accepted request since_head answered answer_len place_behind pulled_to told closing is_allowed outcome_of
get_asked = (get_parsed false, refl, refl, get_taken)

-- it is answered
pub get_answered : Legal usual
    (parsed (on.answer ok (size_of 0)) on.done (get ∷ [])
    ∷ parsed on.next (on.head get_head) (get ∷ [])
    ∷ parsed (on.read get_text) (on.took 27) (get ∷ []) ∷ [])
unfolding taken accepted request since_head answered answer_len place_behind pulled_to told closing is_allowed outcome_of
get_answered = (get_parsed false, refl, refl, get_asked)

-- it is read behind a tick
pub get_ticked : Legal usual (parsed (on.read get_text) (on.took 27) (get ∷ []) ∷ parsed (on.tick 0) on.done [] ∷ [])
unfolding taken accepted request since_head answered answer_len place_behind pulled_to told closing is_allowed outcome_of last_tick first_tick
get_ticked = (get_parsed false, refl, refl, (nothing_behind, refl, refl, tt))

-- the same up to the bytes of its answer
abbrev pub whole_past : List ParsedStep
whole_past = parsed (on.write 200) (on.gave (codes "HTTP/1.1 200 OK\r\ncontent-length: 0\r\ndate: Thu, 01 Jan 1970 00:00:00 GMT\r\n\r\n")) (get ∷ [])
    ∷ parsed (on.answer ok (size_of 0)) on.done (get ∷ [])
    ∷ parsed on.next (on.head get_head) (get ∷ [])
    ∷ parsed (on.read get_text) (on.took 27) (get ∷ [])
    ∷ parsed (on.tick 0) on.done [] ∷ []

-- it is a trace's
pub get_written : Legal usual whole_past
unfolding taken accepted request since_head answered answer_len place_behind pulled_to told closing is_allowed outcome_of last_tick written step_text text head_text date_of year_at month_at appended digits
get_written = (get_parsed false, refl, refl, (get_parsed false, refl, refl, (get_parsed false, refl, refl, get_ticked)))

-- ---- the others, whose heads are handed out

-- the one that asks to close
pub close_asked : Legal usual
    (parsed on.next (on.head close_head) (closing_get ∷ []) ∷ parsed (on.read close_text) (on.took 37) (closing_get ∷ []) ∷ [])
unfolding taken accepted request since_head answered answer_len place_behind pulled_to told closing is_allowed outcome_of
close_asked = (close_parsed, refl, refl, (close_parsed, refl, refl, tt))

-- the one with a body of three bytes
pub post_asked : Legal usual
    (parsed on.next (on.head post_head) (open_post ∷ []) ∷ parsed (on.read post_text) (on.took 40) (open_post ∷ []) ∷ [])
unfolding taken accepted request since_head answered answer_len place_behind pulled_to told closing is_allowed outcome_of
post_asked = (post_parsed, refl, refl, (post_parsed, refl, refl, tt))

-- the one with a body in chunks
pub chunks_asked : Legal usual
    (parsed on.next (on.head chunks_head) (open_chunks ∷ []) ∷ parsed (on.read chunks_text) (on.took 54) (open_chunks ∷ []) ∷ [])
unfolding taken accepted request since_head answered answer_len place_behind pulled_to told closing is_allowed outcome_of
chunks_asked = (chunks_parsed, refl, refl, (chunks_parsed, refl, refl, tt))

-- the one whose body is broken
pub broken_asked : Legal usual
    (parsed on.next (on.head chunks_head) (broken_chunks ∷ []) ∷ parsed (on.read broken_text) (on.took 48) (broken_chunks ∷ []) ∷ [])
unfolding taken accepted request since_head answered answer_len place_behind pulled_to told closing is_allowed outcome_of
broken_asked = (broken_parsed, refl, refl, (broken_parsed, refl, refl, tt))

-- the one that asks for a WebSocket
pub socket_asked : Legal usual
    (parsed on.next (on.head socket_head) (socket ∷ []) ∷ parsed (on.read socket_text) (on.took 131) (socket ∷ []) ∷ [])
unfolding taken accepted request since_head answered answer_len place_behind pulled_to told closing is_allowed outcome_of
socket_asked = (socket_parsed, refl, refl, (socket_parsed, refl, refl, tt))
