-- What a turn of a connection of a hub does.
use Rattle.std.specs.Prelude.{◌≡◌, ℕ, Bool, true, false, not, ◌&&◌, List, [], ◌∷◌, IsTrue, if◌then◌else◌, Option, Some, None, is_some}
use Rattle.model_h1.specs.Answer.{size_of}
use Rattle.model_h1.specs.Frame.{Frame, Message}
use Rattle.model_h1.specs.Frame as frames
use Rattle.model_h1.specs.Event as on
use Rattle.model_h1.specs.Allowed.{is_over}
use Rattle.model_h1.specs.Trace as traces
use Rattle.model_state.specs.Local.{allowed_by}
use Rattle.h1_connection.specs.EventMeaning.{setting_of, event_of, SaysOutcome}
use Rattle.h1_connection.specs.State.{State, IsAllowed}
use Rattle.h1_connection.specs.declared.connection.frames.Sent.{Sent}
use Rattle.h1_connection.specs.declared.connection.frames.Sent.TheVariants as sent
use Rattle.h1_connection.specs.declared.event.Event.{Event}
use Rattle.h1_connection.specs.declared.event.Event.TheVariants as event
use Rattle.h1_connection.specs.declared.event.Outcome.{Outcome}
use Rattle.h1_connection.specs.declared.event.Outcome.TheVariants as out
use Rattle.model_rooms.specs.Seen.{Seen, row_of}
use Rattle.model_rooms.specs.Trace.{core_trace, IsTurnEvent, IsHubTrace}
use Rattle.model_rooms.specs.Turn.{accept_limit, answer_head}
use Rattle.rooms.specs.Seat.{SeatState, SeatStands, SeatGoesOn, GoesOnAfter}
use Rattle.rooms.specs.declared.seat.HubTurn.{HubTurn}

-- ---- the rules of a turn as questions for a connection

-- the event is allowed
abbrev pub allows : SeatState → on.Event → Bool
allows seat event = allowed_by (setting_of seat.connection.settings) seat.connection.kept event

-- the message that waits first is sent where one may be, and else the next frame is taken
abbrev pub sent_by : Bool → Option Message → on.Event
sent_by true (Some message) = on.send message
sent_by _ _ = on.pull

abbrev pub socket_by : SeatState → Option Message → on.Event
socket_by seat front = sent_by (allows seat (on.send frames.nop)) front

-- the limit of payloads with which it is accepted
abbrev pub limit_of : SeatState → ℕ
limit_of seat = accept_limit (setting_of seat.connection.settings)

-- an upgrade that wasn't refused may be accepted
abbrev pub may_accept : SeatState → Bool
may_accept seat = not (is_some seat.refusal) && allows seat (on.accept (limit_of seat))

-- the answer to a request that isn't accepted
abbrev pub answer_by : SeatState → on.Event
answer_by seat = on.answer (answer_head seat.refusal) (size_of 0)

-- the event of a turn, by what is allowed and by the message that waits first
abbrev pub asked_by : SeatState → Option Message → on.Event
asked_by seat front =
    if allows seat on.next then on.next
    else (if may_accept seat then on.accept (limit_of seat)
    else (if allows seat (answer_by seat) then answer_by seat
    else socket_by seat front))

-- the event that is chosen is this one, and allowed; none is where it is a pull that isn't
abbrev pub IsAsked : State → on.Event → Option Event → Type 0
IsAsked state asked None = (asked ≡ on.pull) × (allowed_by (setting_of state.settings) state.kept on.pull ≡ false)
IsAsked state asked (Some event) = (event_of event ≡ asked) × IsAllowed state (event_of event)

-- A turn's event is the one that is asked for, and the seat goes on by it. There is none only where a pull is asked for
-- and isn't allowed, and then nothing changes.
abbrev pub AsksBy : SeatState → Option Message → Option HubTurn → SeatState → Type 0
AsksBy seat front None after = IsAsked seat.connection (asked_by seat front) None × (after ≡ seat)
AsksBy seat front (Some turn) after =
    IsAsked seat.connection (asked_by seat front) (Some turn.event) × SeatGoesOn seat (event_of turn.event) (SaysOutcome turn.outcome) after

-- ---- a turn in a hub

-- the message of the frame that waits first
abbrev pub first_message : List Frame → Option Message
first_message [] = None
first_message (f ∷ fs) = Some (frames.frame f)

-- after what was seen of a hub the seat is that of the connection with this number, for which this message waits first
pub record IsSeatOf (seat : SeatState) (front : Option Message) (seen : List Seen) (i : ℕ) : Type 0 where
  pub hub : IsHubTrace (setting_of seat.connection.settings) seen
  pub stands : SeatStands seat (core_trace i seen)
  pub waits : first_message (row_of i seen).waiting ≡ front

-- the event is that of the rules, and allowed, and the connection goes on by it
pub record IsTurnOf (seat : SeatState) (seen : List Seen) (i : ℕ) (turn : HubTurn) (after : SeatState) : Type 0 where
  pub by_rules : IsTurnEvent (setting_of seat.connection.settings) seen i (event_of turn.event)
  pub allowed : traces.IsAllowed (setting_of seat.connection.settings) (core_trace i seen) (event_of turn.event)
  pub goes : GoesOnAfter seat (core_trace i seen) (event_of turn.event) (SaysOutcome turn.outcome) after

-- A turn is that of the rules, whichever connection of whichever hub the seat is; and there is none only where that
-- connection is over, and then nothing changes.
abbrev pub TurnsBy : SeatState → Option Message → Option HubTurn → SeatState → Type 0
TurnsBy seat front None after =
    (after ≡ seat) × ((seen : List Seen) (i : ℕ) → IsSeatOf seat front seen i → IsTrue (is_over (core_trace i seen)))
TurnsBy seat front (Some turn) after = (seen : List Seen) (i : ℕ) → IsSeatOf seat front seen i → IsTurnOf seat seen i turn after

-- ---- a turn that sends a message

-- what came of a message, as an outcome
abbrev pub sent_outcome : Sent → Outcome
sent_outcome sent.Done = out.Done
sent_outcome (sent.Protocol error) = out.Protocol error

-- the turn that sends this message
abbrev pub sending : Message → Sent → HubTurn
sending message what = record { event = event.Send message; outcome = sent_outcome what }

-- A turn sends this message, which waits first, and is that of the rules. There is none where nothing may be sent, and then
-- nothing changes.
abbrev pub SendsBy : SeatState → Message → Option Sent → SeatState → Type 0
SendsBy seat message None after = (after ≡ seat) × (allows seat (on.send frames.nop) ≡ false)
SendsBy seat message (Some what) after = TurnsBy seat (Some message) (Some (sending message what)) after
