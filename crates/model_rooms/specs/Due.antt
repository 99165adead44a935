-- What is due to a member: all that others said in its room while it was in.
use Rattle.std.specs.Prelude.{ℕ, ◌==◌, Bool, true, false, not, ◌&&◌, List, [], ◌∷◌, ◌++◌, filter, if◌then◌else◌, Option, Some, None}
use Rattle.std.specs.List.{flat_map}
use Rattle.model_h1.specs.Frame.{Frame}
use Rattle.model_h1.specs.Frame as frames
use Rattle.model_h1.specs.Event.{Event, Outcome}
use Rattle.model_h1.specs.Event as on
use Rattle.model_h1.specs.Sums.{Step}
use Rattle.model_rooms.specs.Hub.{Move, move_of, core_of}
use Rattle.model_rooms.specs.Member.{Member, is_in, is_same_room, Effect, says, effect_in, member_at}
use Rattle.model_rooms.specs.Seen.{Seen, steps_of, members_of, row_of}

-- a message: who says it, in which room, and its frames
pub record Said : Type 0 where
  pub number : ℕ
  pub room : Option (List ℕ)
  pub frames : List Frame

abbrev pub said_with : ℕ → Option (List ℕ) → Effect → List Said
said_with i room (says fs) = record { number = i; room = room; frames = fs } ∷ []
said_with i room _ = []

abbrev pub said_by : List Member → Option Move → List Said
said_by ms None = []
said_by ms (Some move) =
    said_with move.number (member_at move.number ms).room (effect_in (member_at move.number ms) move.step.outcome)

-- the message that the step completes, if it does
abbrev pub said_at : List Seen → Seen → List Said
said_at before s = said_by (members_of before) (move_of s.step)

-- all messages, the first one first
unfoldable pub messages : List Seen → List Said
messages [] = []
messages (s ∷ before) = messages before ++ said_at before s

-- another one says it in this room
abbrev pub is_for : ℕ → Option (List ℕ) → Said → Bool
is_for i room message = not (i == message.number) && is_same_room message.room room

-- The messages that are due to the member with this number, in the order in which they were completed: what others said
-- in its room from its joining to its leaving. A message that makes it leave isn't among them.
unfoldable pub due_messages : ℕ → List Seen → List Said
due_messages i [] = []
due_messages i (s ∷ before) =
    due_messages i before
    ++ (if is_in (row_of i before) && is_in (row_of i (s ∷ before)) then filter (is_for i (row_of i before).room) (said_at before s) else [])

-- their frames: each message whole, one after another
abbrev pub due : ℕ → List Seen → List Frame
due i seen = flat_map (λ m. m.frames) (due_messages i seen)

-- ---- what was sent

abbrev pub sent_by : Event → Outcome → List Frame
sent_by (on.send (frames.frame f)) on.done = f ∷ []
sent_by _ _ = []

-- the frames that were sent, the first one first
unfoldable pub sent_frames : List Step → List Frame
sent_frames [] = []
sent_frames (s ∷ before) = sent_frames before ++ sent_by s.event s.outcome

-- the frames that were sent to the member with this number
abbrev pub sent_to : ℕ → List Seen → List Frame
sent_to i seen = sent_frames (core_of i (steps_of seen))

-- a frame of a message, and no control frame
abbrev pub is_data : Frame → Bool
is_data (frames.ping bytes) = false
is_data (frames.pong bytes) = false
is_data (frames.close reason) = false
is_data _ = true

abbrev pub is_close : Frame → Bool
is_close (frames.close reason) = true
is_close _ = false
