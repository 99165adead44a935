-- The sums of a trace. A trace is a list of steps, the newest first.
use Rattle.std.specs.Prelude.{ℕ, ◌+◌, Bool, true, false, not, ◌&&◌, ◌||◌, List, [], ◌∷◌, ◌++◌, length, take, Option, Some, None, unwrap_or, is_some, if◌then◌else◌}
use Rattle.std.specs.List.{list_any}
use Rattle.std.specs.Option.{option_or}
use Rattle.model_h1.specs.Request.{Head}
use Rattle.model_h1.specs.Answer.{AnswerHead, BodySize, is_at_once}
use Rattle.model_h1.specs.FrameText.{is_under_way}
use Rattle.model_h1.specs.Event.{Event, Outcome}
use Rattle.model_h1.specs.Event as on
use Rattle.model_h1.specs.Frame as frames

-- an event and its outcome
pub record Step : Type 0 where
  pub event : Event
  pub outcome : Outcome

-- ---- bytes

abbrev pub step_taken : Event → Outcome → List ℕ
step_taken (on.read bytes) (on.took n) = take n bytes
step_taken _ _ = []

-- the bytes taken so far
unfoldable pub taken : List Step → List ℕ
taken [] = []
taken (s ∷ before) = taken before ++ step_taken s.event s.outcome

abbrev pub step_written : Outcome → List ℕ
step_written (on.gave bytes) = bytes
step_written _ = []

-- the bytes handed out for writing so far
unfoldable pub written : List Step → List ℕ
written [] = []
written (s ∷ before) = written before ++ step_written s.outcome

-- ---- what came

abbrev pub is_eof : Event → Bool
is_eof on.eof = true
is_eof _ = false

abbrev pub is_drain : Event → Bool
is_drain on.drain = true
is_drain _ = false

abbrev pub is_drop : Event → Bool
is_drop on.drop_body = true
is_drop _ = false

abbrev pub is_pull : Event → Bool
is_pull on.pull = true
is_pull _ = false

abbrev pub is_continue : Event → Bool
is_continue on.send_continue = true
is_continue _ = false

abbrev pub is_body_end : Event → Bool
is_body_end on.body_end = true
is_body_end _ = false

abbrev pub is_body_error : Event → Bool
is_body_error on.body_error = true
is_body_error _ = false

-- the limit of payloads of a WebSocket that was accepted
abbrev pub accepted_limit : Event → Outcome → Option ℕ
accepted_limit (on.accept limit) on.done = Some limit
accepted_limit _ _ = None

-- the input has ended
abbrev pub has_ended : List Step → Bool
has_ended steps = list_any (λ s. is_eof s.event) steps

-- the connection is to end soon
abbrev pub is_draining : List Step → Bool
is_draining steps = list_any (λ s. is_drain s.event) steps

-- the limit of payloads on a connection that speaks WebSocket, and nothing on one that doesn't
unfoldable pub accepted : List Step → Option ℕ
accepted [] = None
accepted (s ∷ before) = option_or (accepted_limit s.event s.outcome) (accepted before)

-- the connection speaks WebSocket
abbrev pub is_upgraded : List Step → Bool
is_upgraded steps = is_some (accepted steps)

-- ---- moments

abbrev pub tick_of : Event → Option ℕ
tick_of (on.tick ms) = Some ms
tick_of _ = None

-- the moment of the last tick
unfoldable pub last_tick : List Step → Option ℕ
last_tick [] = None
last_tick (s ∷ before) = option_or (tick_of s.event) (last_tick before)

-- the moment of the first tick
unfoldable pub first_tick : List Step → Option ℕ
first_tick [] = None
first_tick (s ∷ before) = option_or (first_tick before) (tick_of s.event)

-- the moment, which is 0 before the first tick
abbrev pub now : List Step → ℕ
now steps = unwrap_or (last_tick steps) 0

-- ---- the last request and its answer

abbrev pub head_of : Outcome → Option Head
head_of (on.head h) = Some h
head_of _ = None

-- the head that was handed out last
unfoldable pub request : List Step → Option Head
request [] = None
request (s ∷ before) = option_or (head_of s.outcome) (request before)

-- the steps behind that head
unfoldable pub since_head : List Step → List Step
since_head [] = []
since_head (s ∷ before) = if is_some (head_of s.outcome) then [] else s ∷ since_head before

-- an answer as it was handed in, and whether the connection was to end soon by then
pub record Answered : Type 0 where
  pub head : AnswerHead
  pub size : BodySize
  pub drained : Bool

abbrev pub answered_by : Event → Bool → Option Answered
answered_by (on.answer head size) drained = Some (record { head = head; size = size; drained = drained })
answered_by _ drained = None

-- the answer that was handed in behind the last head, if there is one
unfoldable pub answered : List Step → Option Answered
answered [] = None
answered (s ∷ before) =
    if is_some (head_of s.outcome) then None else option_or (answered_by s.event (is_draining before)) (answered before)

-- the event completes an answer, if one may come there
abbrev pub completes : Event → Bool
completes (on.answer head size) = is_at_once size
completes on.body_end = true
completes _ = false

-- an event of this kind came behind the head
abbrev pub came_since_head : (Event → Bool) → List Step → Bool
came_since_head kind steps = list_any (λ s. kind s.event) (since_head steps)

-- the answer to the last request is complete
abbrev pub is_complete : List Step → Bool
is_complete steps = came_since_head completes steps

-- the body of the last request was asked for, or dropped; its client was told to go on
abbrev pub was_pulled : List Step → Bool
was_pulled steps = came_since_head is_pull steps

abbrev pub was_dropped : List Step → Bool
was_dropped steps = came_since_head is_drop steps

abbrev pub had_continue : List Step → Bool
had_continue steps = came_since_head is_continue steps

-- a request was handed out and its answer isn't complete; a WebSocket stays open
abbrev pub is_open : List Step → Bool
is_open steps = is_some (request steps) && (is_upgraded steps || not (is_complete steps))

-- an answer is handed in and isn't complete
abbrev pub is_answering : List Step → Bool
is_answering steps = is_some (answered steps) && not (is_complete steps)

-- the last tick before the last answer became complete
unfoldable pub completed_at : List Step → Option ℕ
completed_at [] = None
completed_at (s ∷ before) = if completes s.event then last_tick before else completed_at before

abbrev pub chunk_len : Event → ℕ
chunk_len (on.chunk bytes) = length bytes
chunk_len _ = 0

-- how many bytes of the answer's body were handed in
unfoldable pub answer_len : List Step → ℕ
answer_len [] = 0
answer_len (s ∷ before) = if is_some (head_of s.outcome) then 0 else chunk_len s.event + answer_len before

-- ---- messages of a WebSocket

abbrev pub under_way_behind : Bool → Event → Outcome → Bool
under_way_behind before (on.send (frames.frame f)) on.done = is_under_way before f
under_way_behind before _ _ = before

-- a message in fragments is being sent
unfoldable pub is_sending : List Step → Bool
is_sending [] = false
is_sending (s ∷ before) = under_way_behind (is_sending before) s.event s.outcome

abbrev pub received_behind : Bool → Outcome → Bool
received_behind before (on.frame f) = is_under_way before f
received_behind before _ = before

-- a message in fragments is being received
unfoldable pub is_receiving : List Step → Bool
is_receiving [] = false
is_receiving (s ∷ before) = received_behind (is_receiving before) s.outcome
