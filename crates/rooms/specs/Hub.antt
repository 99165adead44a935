-- A hub as its contracts see it, and the traces that it stands for.
use Rattle.std.specs.Prelude.{◌≡◌, ◌≤◌, ◌⊎◌, ℕ, Bool, List, [], ◌∷◌, length, slice_get, IsTrue, IsFalse, IsOk, Option, Some, None, Result}
use Rattle.http_config.specs.Config.{Settings}
use Rattle.model_h1.specs.Setting.{Setting}
use Rattle.model_h1.specs.Event.{Event as Given, Outcome as Answer}
use Rattle.model_h1.specs.Frame.{Message}
use Rattle.model_h1.specs.Sums.{Step}
use Rattle.model_h1.specs.Allowed.{is_over}
use Rattle.model_h1.specs.Trace as traces
use Rattle.h1_connection.specs.EventMeaning.{setting_of, event_of, SaysOutcome}
use Rattle.h1_connection.specs.declared.connection.frames.Sent.{Sent}
use Rattle.h1_connection.specs.declared.event.Outcome.{Outcome}
use Rattle.model_rooms.specs.Hub.{opens, feeds, turns, opened, core, open_count, MAX_CONNECTIONS}
use Rattle.model_rooms.specs.Hub as model
use Rattle.model_rooms.specs.Member.{Member}
use Rattle.model_rooms.specs.Seen.{Seen, steps_of, members_of}
use Rattle.model_rooms.specs.Trace.{is_fed, core_trace, IsHubTrace}
use Rattle.rooms.specs.Seat.{SeatState, SeatStands}
use Rattle.rooms.specs.Turn.{sending}
use Rattle.rooms.specs.declared.seat.HubTurn.{HubTurn as SeatTurn}
use Rattle.rooms.specs.Moves.{SendsNone}
use Rattle.rooms.specs.declared.event.HubEvent.{HubEvent}
use Rattle.rooms.specs.declared.event.HubEvent.TheVariants.{Open, Feed, Turn}
use Rattle.rooms.specs.declared.event.HubOutcome.{HubOutcome}
use Rattle.rooms.specs.declared.event.HubOutcome.TheVariants.{Opened, Core}

-- the settings of all connections, the connections by number, and the rows of the members
pub record HubState : Type 0 where
  pub settings : Settings
  pub seats : List SeatState
  pub members : List Member

-- a hub without a connection
abbrev pub fresh_hub : Settings → HubState
fresh_hub settings = record { settings = settings; seats = []; members = [] }

-- the bytes that a connection has still to write
abbrev pub buffered_of : SeatState → List ℕ
buffered_of seat = seat.connection.kept.buffered

-- ---- traces

-- the connection has these settings and stands for the trace
pub record SeatIn (settings : Settings) (seat : SeatState) (trace : List Step) : Type 0 where
  pub settings_are : seat.connection.settings ≡ settings
  pub stands : SeatStands seat trace

-- Each connection of the hub stands for its part of the trace, and the rows are those after it.
pub record HubStands (hub : HubState) (seen : List Seen) : Type 0 where
  pub traced : IsHubTrace (setting_of hub.settings) seen
  pub count : length hub.seats ≡ open_count (steps_of seen)
  pub seats : (i : ℕ) (seat : SeatState) → slice_get hub.seats i ≡ Some seat → SeatIn hub.settings seat (core_trace i seen)
  pub members_are : hub.members ≡ members_of seen

-- ---- events

-- what an event means in the model
abbrev pub hub_event_of : HubEvent → model.HubEvent
hub_event_of Open = opens
hub_event_of (Feed i event) = feeds i (event_of event)
hub_event_of (Turn i) = turns i

-- this event of a connection, and an outcome that says what the model's does
abbrev pub SaysCore : Given → Outcome → model.HubOutcome → Type 0
SaysCore event result outcome = (out : Answer) × SaysOutcome result out × (outcome ≡ core event out)

-- the outcome says what the model's does
abbrev pub SaysHubOutcome : HubOutcome → model.HubOutcome → Type 0
SaysHubOutcome (Opened n) outcome = outcome ≡ opened n
SaysHubOutcome (Core event result) outcome = SaysCore (event_of event) result outcome

-- The event is refused after the trace: too many connections were opened; that connection wasn't opened; the event is no
-- fed one, or isn't allowed; or the connection that would have a turn is over.
abbrev pub IsRefused : Setting → List Seen → model.HubEvent → Type 0
IsRefused setting seen opens = MAX_CONNECTIONS ≤ open_count (steps_of seen)
IsRefused setting seen (feeds i event) =
    (open_count (steps_of seen) ≤ i) ⊎ (IsFalse (is_fed event) ⊎ traces.IsMisplaced setting (core_trace i seen) event)
IsRefused setting seen (turns i) = (open_count (steps_of seen) ≤ i) ⊎ IsTrue (is_over (core_trace i seen))

-- after this trace the event has an outcome of which this is said, and the hub stands for the longer trace
pub record GoesOnAfter (hub : HubState) (seen : List Seen) (event : model.HubEvent) (Says : model.HubOutcome → Type 0) (after : HubState) : Type 0 where
  pub out : model.HubOutcome
  pub says : Says out
  pub closes : Bool
  pub stands : HubStands after (record { step = record { event = event; outcome = out }; closes = closes } ∷ seen)

-- the same after each trace that the hub stands for
abbrev pub HubGoesOn : HubState → model.HubEvent → (model.HubOutcome → Type 0) → HubState → Type 0
HubGoesOn hub event Says after = (seen : List Seen) → HubStands hub seen → GoesOnAfter hub seen event Says after

-- the event is refused after each trace that the hub stands for
abbrev pub HubRefuses : HubState → model.HubEvent → Type 0
HubRefuses hub event = (seen : List Seen) → HubStands hub seen → IsRefused (setting_of hub.settings) seen event

-- an event that is refused takes no memory
abbrev pub RefusesAtOnce : {A E : Type 0} → HubState → model.HubEvent → Result A E → Type 0
RefusesAtOnce hub event r = (seen : List Seen) → HubStands hub seen → IsRefused (setting_of hub.settings) seen event → IsOk r

-- an event is refused, and nothing changes, or the hub goes on
abbrev pub HubSteps : HubState → model.HubEvent → Option HubOutcome → HubState → Type 0
HubSteps hub event None after = (after ≡ hub) × HubRefuses hub event
HubSteps hub event (Some outcome) after = HubGoesOn hub event (SaysHubOutcome outcome) after

-- ---- the same by the calls

-- a connection is opened, or there are too many
abbrev pub HubOpens : HubState → Option ℕ → HubState → Type 0
HubOpens hub None after = (after ≡ hub) × HubRefuses hub opens
HubOpens hub (Some n) after = HubGoesOn hub opens (λ out. out ≡ opened n) after

-- an event comes to a connection, or is refused
abbrev pub HubFeeds : HubState → ℕ → Given → Option Outcome → HubState → Type 0
HubFeeds hub i event None after = (after ≡ hub) × HubRefuses hub (feeds i event)
HubFeeds hub i event (Some outcome) after = HubGoesOn hub (feeds i event) (SaysCore event outcome) after

-- a connection has a turn, or there is none
abbrev pub HubTurns : HubState → ℕ → Option SeatTurn → HubState → Type 0
HubTurns hub i None after = (after ≡ hub) × HubRefuses hub (turns i)
HubTurns hub i (Some turn) after = HubGoesOn hub (turns i) (SaysCore (event_of turn.event) turn.outcome) after

-- a connection has a turn that sends a message, or none: nothing waits for it, or nothing may be sent
abbrev pub HubSends : HubState → ℕ → Option Sent → HubState → Type 0
HubSends hub i None after = (after ≡ hub) × ((seat : SeatState) → slice_get hub.seats i ≡ Some seat → SendsNone seat hub.members i)
HubSends hub i (Some what) after = (m : Message) × HubTurns hub i (Some (sending m what)) after
