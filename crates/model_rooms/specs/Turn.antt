-- The event of a turn: the first rule that applies.
use Rattle.std.specs.Prelude.{ℕ, ◌-◌, Bool, true, false, not, ◌&&◌, ◌||◌, List, [], ◌∷◌, codes, min, if◌then◌else◌, Option, Some, None, is_some}
use Rattle.std.specs.Option.{option_or}
use Rattle.model_h1.specs.Setting.{Setting}
use Rattle.model_h1.specs.Limits.{MAX_FRAME_HEAD}
use Rattle.model_h1.specs.Answer.{AnswerHead, size_of}
use Rattle.model_h1.specs.Frame.{Frame}
use Rattle.model_h1.specs.Frame as frames
use Rattle.model_h1.specs.Handshake.{HandshakeError, get_method_required, no_websocket_upgrade, no_connection_upgrade, no_version_header, unsupported_version, bad_websocket_key}
use Rattle.model_h1.specs.Event.{Event, Outcome}
use Rattle.model_h1.specs.Event as on
use Rattle.model_h1.specs.Sums.{Step, head_of, request, is_open, is_upgraded}
use Rattle.model_h1.specs.Past.{ParsedStep, steps}
use Rattle.model_h1.specs.Closing.{closing}
use Rattle.model_h1.specs.Allowed.{asks_raw, has_room}

-- the most bytes of a frame's payload, where the hold size allows that
abbrev pub MAX_PAYLOAD : ℕ
MAX_PAYLOAD = 65536

-- the limit of payloads with which a WebSocket is accepted
abbrev pub accept_limit : Setting → ℕ
accept_limit setting = min MAX_PAYLOAD (setting.hold_size - MAX_FRAME_HEAD)

-- ---- answers

-- a head with this status and nothing else
abbrev pub plain_head : ℕ → AnswerHead
plain_head status = record {
  status = status;
  reason = None;
  closes = false;
  keeps_alive = false;
  upgrades = false;
  no_chunking = false;
  in_camel_case = false;
  headers = [];
}

abbrev pub because : List ℕ → AnswerHead
because reason = record (plain_head 400) { reason = Some reason }

-- the answer to a request that fails a check of the handshake
abbrev pub refusal_head : HandshakeError → AnswerHead
refusal_head get_method_required = record (plain_head 405) { headers = record { name = codes "allow"; value = codes "GET" } ∷ [] }
refusal_head no_websocket_upgrade = because (codes "No WebSocket Upgrade header found")
refusal_head no_connection_upgrade = because (codes "No Connection upgrade")
refusal_head no_version_header = because (codes "WebSocket version header is required")
refusal_head unsupported_version = because (codes "Unsupported WebSocket version")
refusal_head bad_websocket_key = because (codes "Handshake error")

-- ---- the rules

abbrev pub refusal_by : Event → Outcome → Option HandshakeError
refusal_by (on.accept limit) (on.refused e) = Some e
refusal_by _ _ = None

-- the check that the open request failed, where it was to be accepted
unfoldable pub tried : List Step → Option HandshakeError
tried [] = None
tried (s ∷ before) = if is_some (head_of s.outcome) then None else option_or (refusal_by s.event s.outcome) (tried before)

-- a request that may be upgraded is accepted, once; another one is answered
abbrev pub request_event : Setting → Bool → Option HandshakeError → Event
request_event setting may_upgrade (Some e) = on.answer (refusal_head e) (size_of 0)
request_event setting true None = on.accept (accept_limit setting)
request_event setting false None = on.answer (plain_head 404) (size_of 0)

-- the first waiting frame is sent where there is room for what is written, and else the next frame is taken
abbrev pub socket_event : Bool → List Frame → Event
socket_event true (f ∷ fs) = on.send (frames.frame f)
socket_event _ _ = on.pull

-- the event of a turn, by the connection's past and the frames that wait for it
unfoldable pub turn_event : Setting → List ParsedStep → List Frame → Event
turn_event setting past waiting =
    if is_some (closing setting past) || not (is_open (steps past)) then on.next
    else (if is_upgraded (steps past) then socket_event (has_room setting (steps past)) waiting
    else request_event setting (asks_raw (request (steps past))) (tried (steps past)))

-- ---- the same by questions

-- the answer to a request that isn't upgraded
abbrev pub answer_head : Option HandshakeError → AnswerHead
answer_head (Some e) = refusal_head e
answer_head None = plain_head 404

-- The event of a turn by what is allowed: the next request; else an upgrade that wasn't tried; else an answer; else the
-- frame that waits first; else the next frame.
abbrev pub asked_event : (Event → Bool) → Setting → Option HandshakeError → List Frame → Event
asked_event allows setting refusal waiting =
    if allows on.next then on.next
    else (if not (is_some refusal) && allows (on.accept (accept_limit setting)) then on.accept (accept_limit setting)
    else (if allows (on.answer (answer_head refusal) (size_of 0)) then on.answer (answer_head refusal) (size_of 0)
    else socket_event (allows (on.send frames.nop)) waiting))
