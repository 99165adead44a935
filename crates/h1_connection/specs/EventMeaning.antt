-- What a connection's types mean in the model.
use Rattle.std.specs.Prelude.{◌≡◌, List}
use Rattle.http_config.specs.Config.{Settings}
use Rattle.http_config.specs.declared.keep_alive.KeepAlive.{KeepAlive as Policy}
use Rattle.http_config.specs.declared.keep_alive.KeepAlive.TheVariants.{Timeout, Os, Disabled}
use Rattle.model_h1.specs.Request as model
use Rattle.model_h1.specs.Setting.{Setting, KeepAlive, timeout, by_system, disabled}
use Rattle.model_h1.specs.End as ends
use Rattle.model_h1.specs.Event as on
use Rattle.model_h1.specs.Frame.{ProtocolError as Rule}
use Rattle.model_h1.specs.Handshake as checks
use Rattle.ws_frames.specs.Refusal.{refusal}
use Rattle.ws_frames.specs.declared.error.ProtocolError.{ProtocolError}
use Rattle.ws_session.specs.declared.verify.HandshakeError.{HandshakeError}
use Rattle.ws_session.specs.declared.verify.HandshakeError.TheVariants as handshake
use Rattle.h1_encoder.specs.Meaning.{size_of, answer_of}
use Rattle.h1_decoder.specs.HeadItem.{SaysHead}
use Rattle.h1_payload.specs.Rests.{fault_of as body_fault_of}
use Rattle.http_framing.specs.HeaderLines.{header_map}
use Rattle.h1_connection.specs.declared.event.End.{End}
use Rattle.h1_connection.specs.declared.event.End.TheVariants.{Malformed, TooLarge, SlowRequestTimeout, KeepAliveExpired, Protocol, Body, BodyShort, Asked, BrokenBody, UnreadBody, Drained, HalfClosed, InputEnded}
use Rattle.h1_connection.specs.declared.event.HeadFault.{HeadFault}
use Rattle.h1_connection.specs.declared.event.HeadFault.TheVariants as faults
use Rattle.h1_connection.specs.declared.event.Event.{Event}
use Rattle.h1_connection.specs.declared.event.Event.TheVariants.{Read, Eof, Next, Pull, DropBody, Continue, Answer, Chunk, BodyEnd, BodyError, Write, Tick, Drain, Accept, Send}
use Rattle.h1_connection.specs.declared.event.Outcome.{Outcome}
use Rattle.h1_connection.specs.declared.event.Outcome.TheVariants as out

-- ---- the setting

abbrev pub keep_alive_of : Policy → KeepAlive
keep_alive_of (Timeout milliseconds) = timeout milliseconds
keep_alive_of Os = by_system
keep_alive_of Disabled = disabled

abbrev pub setting_of : Settings → Setting
setting_of settings =
    record {
      keep_alive = keep_alive_of settings.keep_alive;
      request_timeout = settings.client_request_timeout;
      disconnect_timeout = settings.client_disconnect_timeout;
      allows_half_closed = settings.h1_allow_half_closed;
      write_buffer = settings.h1_write_buffer_size;
      hold_size = settings.h1_hold_size;
    }

-- ---- events and outcomes

abbrev pub event_of : Event → on.Event
event_of (Read bytes) = on.read bytes
event_of Eof = on.eof
event_of Next = on.next
event_of Pull = on.pull
event_of DropBody = on.drop_body
event_of Continue = on.send_continue
event_of (Answer head size) = on.answer (answer_of head) (size_of size)
event_of (Chunk bytes) = on.chunk bytes
event_of BodyEnd = on.body_end
event_of BodyError = on.body_error
event_of (Write limit) = on.write limit
event_of (Tick moment) = on.tick moment
event_of Drain = on.drain
event_of (Accept limit) = on.accept limit
event_of (Send message) = on.send message

abbrev pub end_of : End → ends.End
end_of Malformed = ends.malformed
end_of TooLarge = ends.too_large
end_of SlowRequestTimeout = ends.slow_request
end_of KeepAliveExpired = ends.keep_alive_expired
end_of Protocol = ends.protocol
end_of Body = ends.body
end_of BodyShort = ends.body_short
end_of Asked = ends.asked
end_of BrokenBody = ends.broken_body
end_of UnreadBody = ends.unread_body
end_of Drained = ends.drained
end_of HalfClosed = ends.half_closed
end_of InputEnded = ends.input_ended

abbrev pub fault_of : HeadFault → model.Fault
fault_of faults.Malformed = model.malformed
fault_of faults.TooLarge = model.too_large

-- why an upgrade to WebSocket is refused
abbrev pub failing_of : HandshakeError → checks.HandshakeError
failing_of handshake.GetMethodRequired = checks.get_method_required
failing_of handshake.NoWebsocketUpgrade = checks.no_websocket_upgrade
failing_of handshake.NoConnectionUpgrade = checks.no_connection_upgrade
failing_of handshake.NoVersionHeader = checks.no_version_header
failing_of handshake.UnsupportedVersion = checks.unsupported_version
failing_of handshake.BadWebsocketKey = checks.bad_websocket_key

-- the rule of WebSocket that is broken
pub record SaysRule (error : ProtocolError) (outcome : on.Outcome) : Type 0 where
  pub rule : Rule
  pub outcome_is : outcome ≡ on.protocol rule
  pub says : error ≡ refusal rule

-- The outcome says what the model's does. Of a head and of trailers this is a relation, since a map keeps its lines
-- name by name.
abbrev pub SaysOutcome : Outcome → on.Outcome → Type 0
SaysOutcome (out.Took count) outcome = outcome ≡ on.took count
SaysOutcome (out.Head item) outcome = (head : model.Head) × SaysHead item head × (outcome ≡ on.head head)
SaysOutcome (out.Bytes bytes) outcome = outcome ≡ on.bytes bytes
SaysOutcome (out.Trailers map) outcome = (lines : List model.Header) × (map ≡ header_map lines) × (outcome ≡ on.trailers lines)
SaysOutcome (out.Frame frame) outcome = outcome ≡ on.frame frame
SaysOutcome out.BodyEnd outcome = outcome ≡ on.body_ended
SaysOutcome out.Pending outcome = outcome ≡ on.pending
SaysOutcome (out.Closed end) outcome = outcome ≡ on.closed (end_of end)
SaysOutcome (out.Fault fault) outcome = outcome ≡ on.fault (fault_of fault)
SaysOutcome (out.Broken fault) outcome = outcome ≡ on.broken_by (body_fault_of fault)
SaysOutcome (out.Protocol error) outcome = SaysRule error outcome
SaysOutcome (out.Refused error) outcome = outcome ≡ on.refused (failing_of error)
SaysOutcome (out.Gave bytes) outcome = outcome ≡ on.gave bytes
SaysOutcome (out.Expired end) outcome = outcome ≡ on.expired (end_of end)
SaysOutcome out.Abandoned outcome = outcome ≡ on.abandoned
SaysOutcome out.Done outcome = outcome ≡ on.done
