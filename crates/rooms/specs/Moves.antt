-- What the code makes of the rows after an event of one connection.
use Rattle.std.specs.Prelude.{◌≡◌, ◌⊎◌, ℕ, Bool, true, false, List, drop, Option, Some, None, is_some}
use Rattle.model_state.specs.Local.{closing_by}
use Rattle.model_h1.specs.Event as on
use Rattle.model_h1.specs.Frame.{Message}
use Rattle.model_h1.specs.Frame as frames
use Rattle.h1_connection.specs.EventMeaning.{setting_of}
use Rattle.h1_connection.specs.declared.connection.frames.Sent.{Sent}
use Rattle.h1_connection.specs.declared.event.Event.{Event}
use Rattle.h1_connection.specs.declared.event.Event.TheVariants as event
use Rattle.h1_connection.specs.declared.event.Outcome.{Outcome}
use Rattle.h1_connection.specs.declared.event.Outcome.TheVariants as out
use Rattle.model_rooms.specs.Member.{Member, with_end, member_at, rows_from}
use Rattle.rooms.specs.Rows.{only, spoken}
use Rattle.rooms.specs.Seat.{SeatState}
use Rattle.rooms.specs.Turn.{first_message, allows, sending, TurnsBy}
use Rattle.rooms.specs.declared.seat.HubTurn.{HubTurn}

-- it is in this room, where there is one
abbrev pub in_room : Option (List ℕ) → Member → Member
in_room (Some room) m = record m { room = Some room }
in_room None m = m

-- what an event that was done makes of its own row
abbrev pub with_done : Event → Option (List ℕ) → Member → Member
with_done (event.Accept limit) room m = in_room room m
with_done (event.Send message) room m = record m { waiting = drop 1 m.waiting }
with_done _ room m = m

-- what an event makes of all rows: a frame is spoken, and what was done changes its own row alone
abbrev pub moved : Event → Outcome → Option (List ℕ) → ℕ → List Member → List Member
moved event (out.Frame f) room i ms = rows_from 0 (spoken i (member_at i ms) f) ms
moved event out.Done room i ms = rows_from 0 (only i (with_done event room)) ms
moved event _ room i ms = ms

-- it leaves where its connection closes
abbrev pub ended : Bool → ℕ → List Member → List Member
ended true i ms = rows_from 0 (only i (with_end true)) ms
ended false i ms = ms

-- the connection closes
abbrev pub closes_by : SeatState → Bool
closes_by seat = is_some (closing_by (setting_of seat.connection.settings) seat.connection.kept)

-- all rows after an event of this connection, which left it so
abbrev pub followed : Event → Outcome → SeatState → ℕ → List Member → List Member
followed event outcome seat i ms = ended (closes_by seat) i (moved event outcome seat.room i ms)

-- a turn of this connection, or none
abbrev pub Takes : SeatState → List Member → ℕ → Option HubTurn → SeatState → List Member → Type 0
Takes seat ms i None after rows = TurnsBy seat (first_message (member_at i ms).waiting) None after × (rows ≡ ms)
Takes seat ms i (Some turn) after rows =
    TurnsBy seat (first_message (member_at i ms).waiting) (Some turn) after × (rows ≡ followed turn.event turn.outcome after i ms)

-- no message waits for it, or none may be sent
abbrev pub SendsNone : SeatState → List Member → ℕ → Type 0
SendsNone seat ms i = (first_message (member_at i ms).waiting ≡ None) ⊎ (allows seat (on.send frames.nop) ≡ false)

-- a turn of this connection that sends the message that waits first, or none
abbrev pub Sends : SeatState → List Member → ℕ → Option Sent → SeatState → List Member → Type 0
Sends seat ms i None after rows = SendsNone seat ms i × (after ≡ seat) × (rows ≡ ms)
Sends seat ms i (Some what) after rows = (m : Message) × Takes seat ms i (Some (sending m what)) after rows
