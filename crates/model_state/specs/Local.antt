-- Why a connection closes, and which events are allowed: of the parts alone.
use Rattle.std.specs.Prelude.{ℕ, Bool, true, false, not, ◌&&◌, ◌||◌, List, length, nat_lt, if◌then◌else◌, Option, Some, None}
use Rattle.std.specs.Option.{option_or}
use Rattle.model_h1.specs.Place.{Place, broken}
use Rattle.model_h1.specs.Setting.{Setting}
use Rattle.model_h1.specs.FrameText.{Front, partial, front_frame}
use Rattle.model_h1.specs.Parse.{connection_reader}
use Rattle.model_h1.specs.Closing.{Reasons, end_where, drained_by, input_by, end_by, is_kept}
use Rattle.model_h1.specs.Facts.{Facts, may_follow, runs_with, closes_with, goes_with}
use Rattle.model_h1.specs.End as ends
use Rattle.model_h1.specs.End.{End}
use Rattle.model_h1.specs.Event.{Event}
use Rattle.model_state.specs.Kept.{Rest, no_rest, raw_rest, fixed_rest, chunks_rest, frames_rest, Reply, answered, Exchange, Kept, is_frames, is_unanswered, is_sending_body, of_exchange, is_upgraded, is_open, now}

-- ---- closing

-- a body in chunks that is broken, or not read to its end, unless it was dropped
abbrev pub chunks_end : Bool → Place → Option End
chunks_end was_dropped broken = Some ends.broken_body
chunks_end was_dropped place = end_where (not was_dropped) ends.unread_body

-- what is left of the body of a request whose answer is complete
abbrev pub rest_end : Bool → Rest → Option End
rest_end was_dropped no_rest = None
rest_end was_dropped raw_rest = Some ends.unread_body
rest_end was_dropped (fixed_rest n) = Some ends.unread_body
rest_end was_dropped (chunks_rest place section) = chunks_end was_dropped place
rest_end was_dropped (frames_rest under_way limit) = None

abbrev pub answered_end_of : Exchange → Reply → Option End
answered_end_of x (answered kind) = option_or (end_where (not (is_kept kind)) ends.asked) (rest_end x.was_dropped x.rest)
answered_end_of x _ = None

-- the end behind a complete answer: by what is left of the body here, and by the parse in `model_h1`, so these are two
abbrev pub answered_end : Option Exchange → Option End
answered_end None = None
answered_end (Some x) = answered_end_of x x.reply

-- no whole frame and no broken rule stands in front
abbrev pub is_partial : Front → Bool
is_partial partial = true
is_partial _ = false

abbrev pub has_no_frame : List ℕ → Rest → Bool
has_no_frame unread (frames_rest under_way limit) = is_partial (front_frame (connection_reader limit) under_way unread)
has_no_frame unread _ = false

-- nothing more comes that could be handed out: by the bytes that are left here, and by the parse in `model_h1`
abbrev pub is_exhausted : Kept → Bool
is_exhausted k =
    if is_upgraded k then of_exchange (λ x. has_no_frame k.unread x.rest) k else not (is_open k) && not k.is_coming

-- what decides why a connection closes
abbrev pub reasons_of : Kept → Reasons
reasons_of k =
    record {
      answered_end = answered_end k.exchange;
      is_draining = k.is_draining;
      is_open = is_open k;
      is_upgraded = is_upgraded k;
      has_ended = k.has_ended;
      is_exhausted = is_exhausted k;
    }

abbrev pub drained_end : Kept → Option End
drained_end k = drained_by (reasons_of k)

abbrev pub input_end : Setting → Kept → Option End
input_end setting k = input_by setting (reasons_of k)

-- why the connection closes, if it does
unfoldable pub closing_by : Setting → Kept → Option End
closing_by setting k = option_or k.failed (end_by setting (reasons_of k))

-- ---- allowed

-- the open request has a body whose end, fault or drop hasn't come: by what is noted here, and by the steps in `model_h1`
abbrev pub has_body_left : Kept → Bool
has_body_left k = of_exchange (λ x. x.has_body && not (x.body_is_done || x.was_dropped)) k && is_open k

-- the request is open, has no answer, and is no WebSocket
abbrev pub waits_for_answer : Kept → Bool
waits_for_answer k = of_exchange (λ x. is_unanswered x.reply && not (is_frames x.rest)) k

-- an answer is handed in and isn't complete
abbrev pub is_answering : Kept → Bool
is_answering k = of_exchange (λ x. is_sending_body x.reply) k

-- there is room in what is to be written
abbrev pub has_room : Setting → Kept → Bool
has_room setting k = nat_lt (length k.buffered) setting.write_buffer

-- a moment never goes back
abbrev pub is_moment : Kept → ℕ → Bool
is_moment k ms = may_follow (now k) ms

-- what the parts tell
abbrev pub facts_of : Setting → Kept → Facts
facts_of setting k =
    record {
      has_ended = k.has_ended;
      is_draining = k.is_draining;
      is_upgraded = is_upgraded k;
      is_open = is_open k;
      has_body_left = has_body_left k;
      waits_for_answer = waits_for_answer k;
      is_owed_continue = of_exchange (λ x. x.expects && not x.had_continue) k;
      may_upgrade = of_exchange (λ x. x.asked.is_raw && not (x.was_pulled || x.was_dropped)) k;
      is_answering = is_answering k;
      has_room = has_room setting k;
      now = now k;
    }

-- what is allowed while the connection doesn't close
abbrev pub is_allowed_running : Setting → Kept → Event → Bool
is_allowed_running setting k event = runs_with setting (facts_of setting k) event

-- what is allowed once it closes
abbrev pub is_allowed_closing : Kept → Event → Bool
is_allowed_closing k event = closes_with (now k) event

-- the event is allowed
unfoldable pub allowed_by : Setting → Kept → Event → Bool
allowed_by setting k event = goes_with setting k.is_over (closing_by setting k) (facts_of setting k) event
