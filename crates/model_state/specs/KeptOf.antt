-- Each part that a connection keeps, by its whole past.
use Rattle.std.specs.Prelude.{ℕ, ◌+◌, ◌-◌, Bool, true, false, not, ◌&&◌, List, [], drop, slice_range, nat_le, if◌then◌else◌, Option, Some, None, is_some}
use Rattle.std.specs.List.{list_any}
use Rattle.std.specs.Option.{option_or}
use Rattle.model_h1.specs.Place.{start, after}
use Rattle.model_h1.specs.Reading.{read}
use Rattle.model_h1.specs.Request.{BodyKind, no_body, fixed_body, chunked_body, raw_body, Head, has_body}
use Rattle.model_h1.specs.Setting.{Setting}
use Rattle.model_h1.specs.Answer.{asked_of, shape_of, type_of}
use Rattle.model_h1.specs.Parse.{Message, next_start}
use Rattle.model_h1.specs.Event.{Event, Outcome}
use Rattle.model_h1.specs.Event as on
use Rattle.model_h1.specs.Sums.{Step, Answered, taken, accepted, request, answered as answer_of, answer_len, since_head, is_complete, is_open, is_receiving, is_sending, has_ended, is_draining, was_pulled, was_dropped, had_continue, first_tick, last_tick, completed_at}
use Rattle.model_h1.specs.Past.{ParsedStep, steps, current, upcoming, passed}
use Rattle.model_h1.specs.Text.{buffered}
use Rattle.model_h1.specs.Closing.{told, body_end_of, closing_since}
use Rattle.model_h1.specs.Allowed.{is_over}
use Rattle.model_state.specs.Kept.{Rest, no_rest, raw_rest, fixed_rest, chunks_rest, frames_rest, Reply, unanswered, sending, answered, Exchange, Clock, Kept, refusal_of, key_answer_of}
use Rattle.model_state.specs.Reply.{stated}

-- ---- what is left of a body

-- the body has ended, and is passed
abbrev pub is_passed : ℕ → Message → Bool
is_passed place m = ends_by (next_start m.body)
  where
    ends_by : Option ℕ → Bool
    ends_by None = false
    ends_by (Some end) = nat_le end place

-- the bytes of the body that are passed
abbrev pub passed_bytes : List ParsedStep → Message → List ℕ
passed_bytes past m = slice_range (taken (steps past)) m.body_start (passed past)

-- so many bytes, less those that are passed
abbrev pub fixed_left : ℕ → ℕ → Rest
fixed_left end place = if nat_le end place then no_rest else fixed_rest (end - place)

-- chunks, from the place that the passed bytes lead to; once the answer is complete nobody asks for trailers
abbrev pub chunks_left : List ParsedStep → Message → Rest
chunks_left past m =
    if is_passed (passed past) m then no_rest
    else chunks_rest (after start (passed_bytes past m)) (if is_complete (steps past) then [] else (read start (passed_bytes past m)).trailers)

abbrev pub raw_left : List ParsedStep → Message → Option ℕ → Rest
raw_left past m (Some limit) = frames_rest (is_receiving (steps past)) limit
raw_left past m None = if is_passed (passed past) m then no_rest else raw_rest

abbrev pub rest_of : List ParsedStep → Message → BodyKind → Rest
rest_of past m no_body = no_rest
rest_of past m (fixed_body n) = fixed_left (m.body_start + n) (passed past)
rest_of past m chunked_body = chunks_left past m
rest_of past m raw_body = raw_left past m (accepted (steps past))

-- ---- the answer

abbrev pub reply_of : Setting → List Step → Head → Option Answered → Reply
reply_of setting trace h None = unanswered
reply_of setting trace h (Some a) =
    let kind = type_of setting a.drained (asked_of h) a.head a.size in
    let shape = shape_of (asked_of h) a.head a.size in
    if is_complete trace then answered kind else sending shape kind (stated shape - answer_len trace)

-- ---- the last request

-- a pull told the body's end, or its fault; a drop, which gives a body up too, is a part of its own
abbrev pub tells_done : Event → Outcome → Bool
tells_done on.pull on.body_ended = true
tells_done on.pull (on.broken_by fault) = true
tells_done _ _ = false

abbrev pub exchange_with : Setting → List ParsedStep → Message → Head → Exchange
exchange_with setting past m h =
    let trace = steps past in
    record {
      asked = asked_of h;
      has_body = has_body h.body;
      expects = h.expects;
      refusal = refusal_of h;
      accept_key = key_answer_of h;
      rest = rest_of past m h.body;
      reply = reply_of setting trace h (answer_of trace);
      was_pulled = was_pulled trace;
      was_dropped = was_dropped trace;
      had_continue = had_continue trace;
      body_is_done = list_any (λ s. tells_done s.event s.outcome) (since_head trace);
    }

-- the last message that was handed out, and its head
abbrev pub exchange_of : Setting → List ParsedStep → Option Message → Option Head → Option Exchange
exchange_of setting past (Some m) (Some h) = Some (exchange_with setting past m h)
exchange_of setting past _ _ = None

-- ---- all parts

abbrev pub clock_of : List Step → Clock
clock_of trace = record { first = first_tick trace; last = last_tick trace; completed = completed_at trace }

-- what a connection keeps of its past
abbrev pub kept_of : Setting → List ParsedStep → Kept
kept_of setting past =
    let trace = steps past in
    record {
      unread = drop (passed past) (taken trace);
      is_coming = not (is_open trace) && is_some (upcoming past);
      has_ended = has_ended trace;
      is_draining = is_draining trace;
      is_over = is_over trace;
      exchange = exchange_of setting past (current past) (request trace);
      buffered = buffered setting trace;
      is_sending = is_sending trace;
      clock = clock_of trace;
      failed = option_or (told trace) (body_end_of trace);
      closing_since = closing_since setting past;
    }
