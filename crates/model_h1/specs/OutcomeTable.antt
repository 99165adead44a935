-- What a connection answers to an allowed event: a function of the past.
use Rattle.std.specs.Prelude.{ℕ, ◌+◌, ◌-◌, Bool, true, false, not, ◌&&◌, List, [], ◌∷◌, length, take, min, nat_lt, nat_le, ◌==◌, if◌then◌else◌, Option, Some, None, is_some, unwrap_or, option_map, option_and_then, slice_get, slice_range}
use Rattle.std.specs.List.{list_any}
use Rattle.model_h1.specs.Request.{Header, Head, too_large, Reading, head_is, faulty}
use Rattle.model_h1.specs.Setting.{Setting, KeepAlive, timeout}
use Rattle.model_h1.specs.Runs.{Run}
use Rattle.model_h1.specs.Frame.{ProtocolError}
use Rattle.model_h1.specs.FrameText.{PlacedFrame, send_error}
use Rattle.model_h1.specs.Parse as parsed
use Rattle.model_h1.specs.Parse.{Body, no_content, content, frames, Stop, ended_at, still_open, broken, cut, next_start}
use Rattle.model_h1.specs.Handshake.{handshake_error}
use Rattle.model_h1.specs.Event.{Event, Outcome, corrupted, incomplete}
use Rattle.model_h1.specs.Event as on
use Rattle.model_h1.specs.End as ends
use Rattle.model_h1.specs.End.{End}
use Rattle.model_h1.specs.Sums.{Step, taken, request, since_head, is_open, is_complete, is_sending, first_tick, completed_at}
use Rattle.model_h1.specs.Past.{ParsedStep, steps, parse_of, current, upcoming, given_bytes, given_frames, held}
use Rattle.model_h1.specs.Text.{buffered}
use Rattle.model_h1.specs.Closing.{closing, closing_since}

-- ---- Next

abbrev pub head_outcome : Reading → Outcome
head_outcome (head_is h) = on.head h
head_outcome (faulty fault) = on.fault fault

-- the next message's head, or a fault where no more bytes could be taken for one
abbrev pub upcoming_outcome : Setting → List ParsedStep → Option parsed.Message → Outcome
upcoming_outcome setting past (Some m) = head_outcome m.reading
upcoming_outcome setting past None = if held past == setting.hold_size then on.fault too_large else on.pending

abbrev pub next_outcome : Setting → List ParsedStep → Option End → Outcome
next_outcome setting past (Some end) = on.closed end
next_outcome setting past None = upcoming_outcome setting past (upcoming past)

-- ---- Pull

-- the run in which the next byte lies, from that byte on, where so many were given
unfoldable pub run_left : ℕ → List Run → Option Run
run_left given [] = None
run_left given (r ∷ rs) =
    if nat_lt given (r.end - r.start) then Some (record { start = r.start + given; end = r.end })
    else run_left (given - (r.end - r.start)) rs

abbrev pub is_trailers : Outcome → Bool
is_trailers (on.trailers lines) = true
is_trailers _ = false

-- trailers were handed out since the head
abbrev pub gave_trailers : List Step → Bool
gave_trailers trace = list_any (λ s. is_trailers s.outcome) (since_head trace)

-- the trailers of an ended body, unless they were handed out, and then its end
abbrev pub ended_outcome : Bool → List Header → Outcome
ended_outcome were_given [] = on.body_ended
ended_outcome were_given (line ∷ more) = if were_given then on.body_ended else on.trailers (line ∷ more)

abbrev pub stop_outcome : Bool → Stop → Outcome
stop_outcome were_given (ended_at place trailers) = ended_outcome were_given trailers
stop_outcome were_given broken = on.broken_by corrupted
stop_outcome were_given cut = on.broken_by incomplete
stop_outcome were_given still_open = on.pending

-- all bytes of the run that were taken and not given, and else how the body stops
abbrev pub run_outcome : List Step → Stop → Option Run → Outcome
run_outcome trace stop (Some r) = on.bytes (slice_range (taken trace) r.start r.end)
run_outcome trace stop None = stop_outcome (gave_trailers trace) stop

-- the next frame, and else the rule that the bytes behind it break
abbrev pub frame_outcome : Option ProtocolError → Option PlacedFrame → Outcome
frame_outcome fail (Some f) = on.frame f.frame
frame_outcome fail None = unwrap_or (option_map on.protocol fail) on.pending

abbrev pub body_outcome : List Step → Body → Outcome
body_outcome trace no_content = on.pending
body_outcome trace (content runs stop) = run_outcome trace stop (run_left (given_bytes trace) runs)
body_outcome trace (frames placed fail) = frame_outcome fail (slice_get placed (given_frames trace))

abbrev pub pull_outcome : List Step → Option parsed.Message → Outcome
pull_outcome trace None = on.pending
pull_outcome trace (Some m) = body_outcome trace m.body

-- ---- Tick

-- a time that counts from a tick, or from the first one where none came before
abbrev pub counted_from : ℕ → Option ℕ → ℕ
counted_from first tick = unwrap_or tick first

-- a timeout of 0 is off
abbrev pub has_run_out : ℕ → ℕ → ℕ → Bool
has_run_out wait since ms = not (wait == 0) && nat_le (since + wait) ms

-- the time for which the connection is kept has run out
abbrev pub is_kept_too_long : KeepAlive → ℕ → ℕ → Bool
is_kept_too_long (timeout wait) since ms = nat_le (since + wait) ms
is_kept_too_long _ since ms = false

-- What decides which time runs, of a trace or of what is kept.
pub record Times : Type 0 where
  -- nothing waits to be written; no head has come whole
  pub is_written : Bool
  pub waits_for_first : Bool
  -- the last answer is complete, nothing is left of its request, and no other one has begun
  pub waits_for_next : Bool
  -- the last ticks before the connection began to close, and before the last answer was complete
  pub closing_since : Option ℕ
  pub completed : Option ℕ

abbrev pub abandons : Setting → Times → ℕ → ℕ → Bool
abandons setting t first ms = not t.is_written && has_run_out setting.disconnect_timeout (counted_from first t.closing_since) ms

abbrev pub comes_late : Setting → Times → ℕ → ℕ → Bool
comes_late setting t first ms = t.waits_for_first && has_run_out setting.request_timeout first ms

abbrev pub idles : Setting → Times → ℕ → ℕ → Bool
idles setting t first ms = t.waits_for_next && is_kept_too_long setting.keep_alive (counted_from first t.completed) ms

abbrev pub tick_by : Setting → Times → Option End → ℕ → ℕ → Outcome
tick_by setting t (Some end) first ms = if abandons setting t first ms then on.abandoned else on.done
tick_by setting t None first ms =
    if comes_late setting t first ms then on.expired ends.slow_request
    else (if idles setting t first ms then on.expired ends.keep_alive_expired else on.done)

abbrev pub has_ended_body : Option parsed.Message → Bool
has_ended_body None = false
has_ended_body (Some m) = is_some (next_start m.body)

-- the last answer is complete, nothing is left of its request, and no byte of another one has come
abbrev pub waits_for_next : List ParsedStep → Bool
waits_for_next past = is_complete (steps past) && not (is_open (steps past)) && has_ended_body (current past) && (held past == 0)

abbrev pub times_of : Setting → List ParsedStep → Times
times_of setting past =
    record {
      is_written = length (buffered setting (steps past)) == 0;
      waits_for_first = length (parse_of past) == 0;
      waits_for_next = waits_for_next past;
      closing_since = unwrap_or (closing_since setting past) None;
      completed = completed_at (steps past);
    }

abbrev pub is_abandoned : Setting → List ParsedStep → ℕ → ℕ → Bool
is_abandoned setting past first ms = abandons setting (times_of setting past) first ms

abbrev pub is_slow : Setting → List ParsedStep → ℕ → ℕ → Bool
is_slow setting past first ms = comes_late setting (times_of setting past) first ms

abbrev pub is_idle : Setting → List ParsedStep → ℕ → ℕ → Bool
is_idle setting past first ms = idles setting (times_of setting past) first ms

abbrev pub tick_outcome : Setting → List ParsedStep → Option End → ℕ → ℕ → Outcome
tick_outcome setting past end first ms = tick_by setting (times_of setting past) end first ms

-- ---- the others

abbrev pub accept_outcome : Option Head → Outcome
accept_outcome request = unwrap_or (option_map on.refused (option_and_then handshake_error request)) on.done

abbrev pub send_outcome : Option ProtocolError → Outcome
send_outcome error = unwrap_or (option_map on.protocol error) on.done

-- the outcome of an event that is allowed
unfoldable pub outcome_of : Setting → List ParsedStep → Event → Outcome
outcome_of setting past (on.read bytes) = on.took (min (length bytes) (setting.hold_size - held past))
outcome_of setting past on.next = next_outcome setting past (closing setting past)
outcome_of setting past on.pull = pull_outcome (steps past) (current past)
outcome_of setting past (on.write n) = on.gave (take n (buffered setting (steps past)))
outcome_of setting past (on.tick ms) =
    tick_outcome setting past (closing setting past) (unwrap_or (first_tick (steps past)) ms) ms
outcome_of setting past (on.accept limit) = accept_outcome (request (steps past))
outcome_of setting past (on.send m) = send_outcome (send_error (is_sending (steps past)) m)
outcome_of setting past _ = on.done
