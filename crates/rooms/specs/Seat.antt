-- A connection of a hub as its contracts see it, and the traces that it stands for.
use Rattle.std.specs.Prelude.{◌≡◌, ◌≤◌, ℕ, Bool, true, false, List, ◌∷◌, Option, Some, None, option_map, if◌then◌else◌}
use Rattle.http_config.specs.Config.{Settings}
use Rattle.http_uri.specs.Uri.{uri_path}
use Rattle.model_h1.specs.Limits.{MAX_FRAME_HEAD}
use Rattle.model_h1.specs.Handshake.{HandshakeError}
use Rattle.model_h1.specs.Event as on
use Rattle.model_h1.specs.Sums.{Step, request}
use Rattle.model_h1.specs.Trace.{IsOutcome}
use Rattle.h1_connection.specs.EventMeaning.{setting_of, failing_of}
use Rattle.h1_connection.specs.State.{State, fresh_state, Stands}
use Rattle.h1_connection.specs.declared.event.Event.{Event}
use Rattle.h1_connection.specs.declared.event.Event.TheVariants as event
use Rattle.h1_connection.specs.declared.event.Outcome.{Outcome}
use Rattle.h1_connection.specs.declared.event.Outcome.TheVariants as out
use Rattle.ws_session.specs.declared.verify.HandshakeError.{HandshakeError as Check}
use Rattle.model_rooms.specs.Room.{room_of}
use Rattle.model_rooms.specs.Turn.{accept_limit, tried}

-- the connection, the check that its open request failed, and the room that its last request names
pub record SeatState : Type 0 where
  pub connection : State
  pub refusal : Option HandshakeError
  pub room : Option (List ℕ)

-- the limit of payloads is that of the rules, and the hold size has room for the head of a frame
pub record IsUsable (limit : ℕ) (settings : Settings) : Type 0 where
  pub limit_is : limit ≡ accept_limit (setting_of settings)
  pub holds : MAX_FRAME_HEAD ≤ settings.h1_hold_size

-- a connection to which nothing came
abbrev pub fresh_seat : Settings → SeatState
fresh_seat settings = record { connection = fresh_state settings; refusal = None; room = None }

-- ---- traces

-- the room that the last request names
abbrev pub room_asked : List Step → Option (List ℕ)
room_asked trace = option_map (λ h. room_of h.target) (request trace)

-- the seat stands for the trace
pub record SeatStands (seat : SeatState) (trace : List Step) : Type 0 where
  pub stands : Stands seat.connection trace
  pub refusal_is : seat.refusal ≡ tried trace
  pub room_is : seat.room ≡ room_asked trace

-- after this trace the event has an outcome of the table, of which this is said, and the seat stands for the longer trace
pub record GoesOnAfter (seat : SeatState) (trace : List Step) (event : on.Event) (Says : on.Outcome → Type 0) (after : SeatState) : Type 0 where
  pub out : on.Outcome
  pub says : Says out
  pub answers : IsOutcome (setting_of seat.connection.settings) trace event out
  pub stands : SeatStands after (record { event = event; outcome = out } ∷ trace)

-- the same after each trace that it stands for
abbrev pub SeatGoesOn : SeatState → on.Event → (on.Outcome → Type 0) → SeatState → Type 0
SeatGoesOn seat event Says after = (trace : List Step) → SeatStands seat trace → GoesOnAfter seat trace event Says after

-- ---- what is kept of an outcome

-- where the event was an upgrade, this check failed
abbrev pub refused_by : Event → Check → Option HandshakeError → Option HandshakeError
refused_by (event.Accept limit) error before = Some (failing_of error)
refused_by _ error before = before

-- a new request has failed none
abbrev pub refusal_after : Event → Outcome → Option HandshakeError → Option HandshakeError
refusal_after event (out.Head item) before = None
refusal_after event (out.Refused error) before = refused_by event error before
refusal_after event _ before = before

-- a new request names a room
abbrev pub room_after : Outcome → Option (List ℕ) → Option (List ℕ)
room_after (out.Head item) before = Some (uri_path item.head.uri)
room_after _ before = before

-- the outcome hands out a head
abbrev pub gives_head : Outcome → Bool
gives_head (out.Head item) = true
gives_head _ = false
