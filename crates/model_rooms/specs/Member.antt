-- The members of the rooms, and what frames make of them (RFC 6455, sections 5.4 to 5.6 and 8.1).
use Rattle.std.specs.Prelude.{ℕ, zero, suc, ◌+◌, ◌==◌, Bool, true, false, not, ◌&&◌, ◌||◌, List, [], ◌∷◌, ◌++◌, length, drop, sum_by, bytes_eq, nat_le, nat_lt, if◌then◌else◌, Option, Some, None, is_some, option_map}
use Rattle.std.specs.List.{flat_map}
use Rattle.std.specs.Str.{is_utf8}
use Rattle.model_h1.specs.Request.{Head}
use Rattle.model_h1.specs.Frame.{CloseReason, Frame}
use Rattle.model_h1.specs.Frame as frames
use Rattle.model_h1.specs.Event.{Event, Outcome}
use Rattle.model_h1.specs.Event as on
use Rattle.model_h1.specs.Sums.{Step, request}
use Rattle.model_rooms.specs.Hub.{HubEvent, opens, HubStep, Move, core_of}
use Rattle.model_rooms.specs.Room.{room_of}

-- the most frames that messages and pongs bring a waiting list to; the Close of who leaves may be one more
abbrev pub MAX_WAITING : ℕ
MAX_WAITING = 1024

-- the most bytes and frames of a message whose last frame hasn't come
abbrev pub MAX_PART_BYTES : ℕ
MAX_PART_BYTES = 1048576

abbrev pub MAX_PARTS : ℕ
MAX_PARTS = 1023

-- A connection in the hub: its room, once it has joined one; whether it has left; the frames of its own
-- message whose last one hasn't come; and the frames that wait to be sent to it, the first one first.
pub record Member : Type 0 where
  pub room : Option (List ℕ)
  pub has_left : Bool
  pub parts : List Frame
  pub waiting : List Frame

-- a connection that has joined no room
abbrev pub newcomer : Member
newcomer = record { room = None; has_left = false; parts = []; waiting = [] }

abbrev pub is_in : Member → Bool
is_in m = not m.has_left && is_some m.room

-- both are rooms, and the same one
abbrev pub is_same_room : Option (List ℕ) → Option (List ℕ) → Bool
is_same_room (Some a) (Some b) = bytes_eq a b
is_same_room _ _ = false

-- ---- what a frame does

-- A message is said in the room; the frames of a message are kept until its last one; a frame goes back to
-- its sender; or the sender leaves, with this frame as the last to it.
pub data Effect : Type 0 where
  says : List Frame → Effect
  keeps : List Frame → Effect
  answers : Frame → Effect
  leaves_with : Frame → Effect
  nothing : Effect

-- Close with this code and no text (section 7.4.1)
abbrev pub close_with : ℕ → Frame
close_with code = frames.close (Some (record { code = code; description = None }))

-- text that isn't UTF-8; a member that doesn't read; a message that is too long
abbrev pub invalid_close : Frame
invalid_close = close_with 1007

abbrev pub policy_close : Frame
policy_close = close_with 1008

abbrev pub size_close : Frame
size_close = close_with 1009

abbrev pub payload : Frame → List ℕ
payload (frames.text bytes) = bytes
payload (frames.binary bytes) = bytes
payload (frames.first_text bytes) = bytes
payload (frames.first_binary bytes) = bytes
payload (frames.continuation bytes) = bytes
payload (frames.last bytes) = bytes
payload (frames.ping bytes) = bytes
payload (frames.pong bytes) = bytes
payload (frames.close reason) = []

-- how many bytes the payloads of the frames have
abbrev pub byte_count : List Frame → ℕ
byte_count parts = sum_by (λ f. length (payload f)) parts

-- the frames of a message that goes on are kept, unless they are too many or too long
abbrev pub kept : List Frame → Effect
kept parts =
    if nat_lt MAX_PARTS (length parts) || nat_lt MAX_PART_BYTES (byte_count parts) then leaves_with size_close else keeps parts

-- a whole message is said, unless it is text and isn't UTF-8: a fragment may end inside a character, so
-- the payloads are judged together
abbrev pub is_text : List Frame → Bool
is_text (frames.text bytes ∷ more) = true
is_text (frames.first_text bytes ∷ more) = true
is_text _ = false

abbrev pub said : List Frame → Effect
said message = if is_text message && not (is_utf8 (flat_map payload message)) then leaves_with invalid_close else says message

-- A frame that goes on with a message. Without a first one there is nothing to go on with: no connection hands
-- out such a frame.
abbrev pub going_on : List Frame → Frame → Effect
going_on [] f = nothing
going_on (p ∷ ps) (frames.last bytes) = said ((p ∷ ps) ++ frames.last bytes ∷ [])
going_on (p ∷ ps) f = kept ((p ∷ ps) ++ f ∷ [])

-- what a frame of a member does, by the frames of its message that came before
abbrev pub effect_of : List Frame → Frame → Effect
effect_of parts (frames.text bytes) = said (frames.text bytes ∷ [])
effect_of parts (frames.binary bytes) = said (frames.binary bytes ∷ [])
effect_of parts (frames.first_text bytes) = kept (frames.first_text bytes ∷ [])
effect_of parts (frames.first_binary bytes) = kept (frames.first_binary bytes ∷ [])
effect_of parts (frames.continuation bytes) = going_on parts (frames.continuation bytes)
effect_of parts (frames.last bytes) = going_on parts (frames.last bytes)
effect_of parts (frames.ping bytes) = answers (frames.pong bytes)
effect_of parts (frames.pong bytes) = nothing
effect_of parts (frames.close reason) = leaves_with (frames.close reason)

-- who isn't in a room has no effect by its frames, nor has an outcome that is no frame
abbrev pub effect_in : Member → Outcome → Effect
effect_in m (on.frame f) = if is_in m then effect_of m.parts f else nothing
effect_in m _ = nothing

-- ---- the rows

-- the member leaves, with this frame as the last to it
abbrev pub leaving : Frame → Member → Member
leaving f m = record m { has_left = true; parts = []; waiting = m.waiting ++ f ∷ [] }

-- The frames of a message, or a pong, wait for the member. Where there is no room for all of them, none is added, and
-- the member, which doesn't read, leaves.
abbrev pub put : List Frame → Member → Member
put fs m =
    if nat_le (length m.waiting + length fs) MAX_WAITING then record m { waiting = m.waiting ++ fs } else leaving policy_close m

-- the others in the room hear what is said
abbrev pub heard : Effect → Option (List ℕ) → Member → Member
heard (says fs) room m = if is_in m && is_same_room room m.room then put fs m else m
heard _ room m = m

-- what a member's own frame makes of it
abbrev pub with_effect : Effect → Member → Member
with_effect (says fs) m = record m { parts = [] }
with_effect (keeps parts) m = record m { parts = parts }
with_effect (answers f) m = put (f ∷ []) m
with_effect (leaves_with f) m = leaving f m
with_effect nothing m = m

-- It joins the room of the request where its WebSocket is accepted; the first waiting frame was sent.
abbrev pub with_step : Option Head → Event → Outcome → Member → Member
with_step asked (on.accept limit) on.done m = record m { room = option_map (λ h. room_of h.target) asked }
with_step asked (on.send message) on.done m = record m { waiting = drop 1 m.waiting }
with_step asked _ _ m = m

-- it leaves where its connection closes
abbrev pub with_end : Bool → Member → Member
with_end closes m = if closes then record m { has_left = true; parts = [] } else m

abbrev pub own_row : Option Head → Bool → Step → Member → Member
own_row asked closes step m = with_end closes (with_effect (effect_in m step.outcome) (with_step asked step.event step.outcome m))

-- What a step makes of the row of the member with this number: by that row, and by the row of the one that moves.
abbrev pub row_behind : Option Head → Bool → Move → Member → ℕ → Member → Member
row_behind asked closes move mover i m =
    if i == move.number then own_row asked closes move.step m else heard (effect_in mover move.step.outcome) mover.room m

-- ---- all rows

-- the row with this number; a connection that wasn't opened is a newcomer
abbrev pub member_at : ℕ → List Member → Member
member_at i [] = newcomer
member_at zero (m ∷ ms) = m
member_at (suc i) (m ∷ ms) = member_at i ms

-- each row changed, by its number, which counts from k on
abbrev pub rows_from : ℕ → (ℕ → Member → Member) → List Member → List Member
rows_from k change [] = []
rows_from k change (m ∷ ms) = change k m ∷ rows_from (k + 1) change ms

abbrev pub with_opened : HubEvent → List Member → List Member
with_opened opens ms = ms ++ newcomer ∷ []
with_opened _ ms = ms

abbrev pub rows_behind : List HubStep → Bool → Option Move → List Member → List Member
rows_behind before closes None ms = ms
rows_behind before closes (Some move) ms =
    rows_from 0 (row_behind (request (core_of move.number before)) closes move (member_at move.number ms)) ms
