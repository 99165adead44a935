-- When a connection closes, and why: the first row that holds.
use Rattle.std.specs.Prelude.{ℕ, Bool, true, false, not, ◌&&◌, ◌||◌, List, [], ◌∷◌, length, nat_lt, if◌then◌else◌, Option, Some, None, is_some, is_none}
use Rattle.std.specs.List.{list_any}
use Rattle.std.specs.Option.{option_or}
use Rattle.model_h1.specs.Request.{ConnectionType, keep_alive, Head, Fault, malformed, too_large}
use Rattle.model_h1.specs.Setting.{Setting}
use Rattle.model_h1.specs.Answer.{asked_of, Shape, shape_length, shape_of, type_of}
use Rattle.model_h1.specs.Parse.{Message, Body, content, still_open, broken, cut, frames_of, fail_of}
use Rattle.model_h1.specs.Event.{Outcome}
use Rattle.model_h1.specs.Event as on
use Rattle.model_h1.specs.End as ends
use Rattle.model_h1.specs.End.{End}
use Rattle.model_h1.specs.Sums.{Step, Answered, request, answered, answer_len, came_since_head, was_dropped, is_complete, is_open, is_upgraded, has_ended, is_draining, is_body_end, is_body_error, last_tick}
use Rattle.model_h1.specs.Past.{ParsedStep, steps, current, upcoming, given_frames, has_chunks}

-- this end, where it holds
abbrev pub end_where : Bool → End → Option End
end_where holds end = if holds then Some end else None

-- ---- the rows, behind what was told

-- What decides, of a trace or of what is kept.
pub record Reasons : Type 0 where
  -- the end behind a complete answer
  pub answered_end : Option End
  pub is_draining : Bool
  pub is_open : Bool
  pub is_upgraded : Bool
  -- the input has ended; nothing more comes that could be handed out
  pub has_ended : Bool
  pub is_exhausted : Bool

abbrev pub drained_by : Reasons → Option End
drained_by r = end_where (r.is_draining && (not r.is_open || r.is_upgraded)) ends.drained

abbrev pub input_by : Setting → Reasons → Option End
input_by setting r =
    if r.has_ended
    then option_or (end_where (not setting.allows_half_closed) ends.half_closed) (end_where r.is_exhausted ends.input_ended)
    else None

-- the first row that holds
abbrev pub end_by : Setting → Reasons → Option End
end_by setting r = option_or r.answered_end (option_or (drained_by r) (input_by setting r))

-- ---- a fault, an expiry or a broken rule was told

abbrev pub fault_end : Fault → End
fault_end malformed = ends.malformed
fault_end too_large = ends.too_large

abbrev pub told_end : Outcome → Option End
told_end (on.fault f) = Some (fault_end f)
told_end (on.expired end) = Some end
told_end (on.protocol e) = Some ends.protocol
told_end _ = None

-- the end that was told; behind it no other one is
unfoldable pub told : List Step → Option End
told [] = None
told (s ∷ before) = option_or (told_end s.outcome) (told before)

-- ---- the answer's body

abbrev pub lacks_bytes : Shape → ℕ → Bool
lacks_bytes (shape_length n) len = nat_lt len n
lacks_bytes _ len = false

-- the body was ended with bytes of its stated size missing
abbrev pub is_short : Option Head → Option Answered → ℕ → Bool
is_short (Some h) (Some a) len =
    not (asked_of h).is_head && lacks_bytes (shape_of (asked_of h) a.head a.size) len
is_short _ _ len = false

-- the answer's body failed, or was ended short
abbrev pub body_end_of : List Step → Option End
body_end_of trace =
    option_or (end_where (list_any (λ s. is_body_error s.event) trace) ends.body)
    (end_where (came_since_head is_body_end trace && is_short (request trace) (answered trace) (answer_len trace)) ends.body_short)

-- ---- behind a complete answer

abbrev pub is_kept : ConnectionType → Bool
is_kept keep_alive = true
is_kept _ = false

abbrev pub asked_by : Setting → Option Head → Option Answered → Option End
asked_by setting (Some h) (Some a) = end_where (not (is_kept (type_of setting a.drained (asked_of h) a.head a.size))) ends.asked
asked_by setting _ _ = None

-- a body that isn't read to its end can't be passed, unless it comes in chunks and was dropped
abbrev pub unread_end : Body → Bool → Option End
unread_end (content runs broken) passable = Some ends.broken_body
unread_end (content runs still_open) passable = end_where (not passable) ends.unread_body
unread_end (content runs cut) passable = end_where (not passable) ends.unread_body
unread_end _ passable = None

abbrev pub unread_by : List Step → Option Message → Option End
unread_by trace None = None
unread_by trace (Some m) = unread_end m.body (has_chunks m.reading && was_dropped trace)

-- the end behind a complete answer: by the parse here, and by what is left of the body in `model_state`, so these are two
abbrev pub answered_end : Setting → List ParsedStep → Option End
answered_end setting past =
    if is_complete (steps past)
    then option_or (asked_by setting (request (steps past)) (answered (steps past))) (unread_by (steps past) (current past))
    else None

-- ---- at the end of the input

-- frames or a broken rule are still to be handed out
abbrev pub has_more_frames : List Step → Option Message → Bool
has_more_frames trace None = false
has_more_frames trace (Some m) = nat_lt (given_frames trace) (length (frames_of m.body)) || is_some (fail_of m.body)

-- nothing more comes that could be handed out: by the parse here, and by the bytes that are left in `model_state`
abbrev pub is_exhausted : List ParsedStep → Bool
is_exhausted past =
    if is_upgraded (steps past) then not (has_more_frames (steps past) (current past))
    else not (is_open (steps past)) && is_none (upcoming past)

-- what decides why a connection closes
abbrev pub reasons_of : Setting → List ParsedStep → Reasons
reasons_of setting past =
    record {
      answered_end = answered_end setting past;
      is_draining = is_draining (steps past);
      is_open = is_open (steps past);
      is_upgraded = is_upgraded (steps past);
      has_ended = has_ended (steps past);
      is_exhausted = is_exhausted past;
    }

-- why the connection closes, if it does
unfoldable pub closing : Setting → List ParsedStep → Option End
closing setting past =
    option_or (told (steps past)) (option_or (body_end_of (steps past)) (end_by setting (reasons_of setting past)))

-- the last tick before the connection began to close: none where it doesn't close, and where it closes
-- Some of that tick, of which there may be none
unfoldable pub closing_since : Setting → List ParsedStep → Option (Option ℕ)
closing_since setting [] = None
closing_since setting (m ∷ before) =
    option_or (closing_since setting before)
    (if is_some (closing setting (m ∷ before)) then Some (last_tick (steps (m ∷ before))) else None)
