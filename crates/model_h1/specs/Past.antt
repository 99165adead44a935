-- The past of a connection: its trace, with the parse of the bytes taken beside each step. What was
-- passed, and what is held.
use Rattle.std.specs.Prelude.{ℕ, ◌+◌, ◌-◌, Bool, false, List, [], ◌∷◌, length, map, sum_by, count_by, nat_le, ◌==◌, if◌then◌else◌, Option, Some, None, unwrap_or, is_some, slice_get, ⊤}
use Rattle.model_h1.specs.Request.{Reading, head_is, is_chunked_kind}
use Rattle.model_h1.specs.Setting.{Setting}
use Rattle.model_h1.specs.Runs.{Run}
use Rattle.model_h1.specs.FrameText.{PlacedFrame}
use Rattle.model_h1.specs.Parse.{Input, Message, next_start, runs_of, frames_of, IsParse}
use Rattle.model_h1.specs.Event.{Event, Outcome}
use Rattle.model_h1.specs.Event as on
use Rattle.model_h1.specs.Sums.{Step, taken, has_ended, accepted, is_complete, since_head, head_of}

-- a step, and the parse of all bytes taken by then
pub record ParsedStep : Type 0 where
  pub step : Step
  pub parse : List Message

-- the steps of a past, the newest first as there
abbrev pub steps : List ParsedStep → List Step
steps past = map (λ m. m.step) past

-- what is parsed behind a trace
abbrev pub input_of : Setting → List Step → Input
input_of setting trace =
    record { bytes = taken trace; upgraded = accepted trace; ended = has_ended trace; hold_size = setting.hold_size }

-- each parse is the one of the bytes taken by then
abbrev pub IsPast : Setting → List ParsedStep → Type 0
IsPast setting [] = ⊤
IsPast setting (m ∷ before) = IsParse (input_of setting (m.step ∷ steps before)) m.parse × IsPast setting before

-- the messages that were parsed so far
abbrev pub parse_of : List ParsedStep → List Message
parse_of [] = []
parse_of (m ∷ before) = m.parse

-- ---- messages that were handed out

-- how many heads were handed out
abbrev pub head_count : List Step → ℕ
head_count trace = count_by (λ s. is_some (head_of s.outcome)) trace

-- the message whose head was handed out last, as it is parsed now
abbrev pub current : List ParsedStep → Option Message
current past = if head_count (steps past) == 0 then None else slice_get (parse_of past) (head_count (steps past) - 1)

-- the message behind it
abbrev pub upcoming : List ParsedStep → Option Message
upcoming past = slice_get (parse_of past) (head_count (steps past))

-- how many bytes of its body, and how many frames, were handed out
abbrev pub step_bytes : Outcome → ℕ
step_bytes (on.bytes more) = length more
step_bytes _ = 0

abbrev pub step_frames : Outcome → ℕ
step_frames (on.frame f) = 1
step_frames _ = 0

abbrev pub given_bytes : List Step → ℕ
given_bytes trace = sum_by (λ s. step_bytes s.outcome) (since_head trace)

abbrev pub given_frames : List Step → ℕ
given_frames trace = sum_by (λ s. step_frames s.outcome) (since_head trace)

-- ---- places

-- the place behind so many bytes of the runs, from a place in front of them
unfoldable pub place_behind : ℕ → ℕ → List Run → ℕ
place_behind place given [] = place
place_behind place given (r ∷ rs) =
    if given == 0 then place
    else (if nat_le given (r.end - r.start) then r.start + given else place_behind r.end (given - (r.end - r.start)) rs)

-- the place behind so many frames
abbrev pub frame_end : ℕ → ℕ → List PlacedFrame → ℕ
frame_end place count placed = if count == 0 then place else last_end (slice_get placed (count - 1))
  where
    last_end : Option PlacedFrame → ℕ
    last_end None = place
    last_end (Some f) = f.end

abbrev pub has_chunks : Reading → Bool
has_chunks (head_is h) = is_chunked_kind h.body
has_chunks _ = false

-- What a pull passes: bytes or a frame up to their end, trailers and the end up to the body's. A chunked body
-- of which nothing can be given is read past as far as it was taken.
abbrev pub pulled_place : Message → List Step → Event → Outcome → Option ℕ
pulled_place m trace on.pull (on.bytes more) = Some (place_behind m.body_start (given_bytes trace) (runs_of m.body))
pulled_place m trace on.pull (on.trailers lines) = next_start m.body
pulled_place m trace on.pull on.body_ended = next_start m.body
pulled_place m trace on.pull (on.frame f) = Some (frame_end m.body_start (given_frames trace) (frames_of m.body))
pulled_place m trace on.pull on.pending = if has_chunks m.reading then Some (length (taken trace)) else None
pulled_place m trace _ _ = None

-- the place of the last pull behind the head that passed something, and else the body's start
unfoldable pub pulled_to : Message → List Step → ℕ
pulled_to m [] = m.body_start
pulled_to m (s ∷ before) =
    if is_some (head_of s.outcome) then m.body_start
    else unwrap_or (pulled_place m (s ∷ before) s.event s.outcome) (pulled_to m before)

-- A message whose answer is complete is passed up to its end, or as far as it was taken. A fault passes
-- nothing.
abbrev pub message_passed : List ParsedStep → Message → ℕ
message_passed past m =
    if is_complete (steps past) then unwrap_or (next_start m.body) (length (taken (steps past))) else pulled_to m (steps past)

-- how far the bytes taken are passed
abbrev pub passed : List ParsedStep → ℕ
passed past = passed_by (current past)
  where
    passed_by : Option Message → ℕ
    passed_by None = 0
    passed_by (Some m) = message_passed past m

-- how many bytes are taken and not passed
abbrev pub held : List ParsedStep → ℕ
held past = length (taken (steps past)) - passed past
