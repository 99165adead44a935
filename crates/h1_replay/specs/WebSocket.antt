-- The lines of a report that speak of a WebSocket.
use Rattle.std.specs.Prelude.{ℕ, List, ◌++◌, [], Option, Some, None, codes, decimal, unwrap_or}
use Rattle.model_h1.specs.Frame as model
use Rattle.ws_frames.specs.Protocol.{opcode_text}
use Rattle.ws_frames.specs.declared.error.ProtocolError.{ProtocolError}
use Rattle.ws_frames.specs.declared.error.ProtocolError.TheVariants as errors
use Rattle.ws_session.specs.declared.verify.HandshakeError.{HandshakeError}
use Rattle.ws_session.specs.declared.verify.HandshakeError.TheVariants as handshake
use Rattle.h1_replay.specs.Hex.{hex_word}

-- a Close
abbrev pub close_words : Option model.CloseReason → List ℕ
close_words None = codes "close"
close_words (Some reason) = codes "close " ++ decimal reason.code ++ codes " " ++ hex_word (unwrap_or reason.description [])

-- a frame: its kind, and its payload in hex
abbrev pub frame_words : model.Frame → List ℕ
frame_words (model.text payload) = codes "text " ++ hex_word payload
frame_words (model.binary payload) = codes "binary " ++ hex_word payload
frame_words (model.first_text payload) = codes "firsttext " ++ hex_word payload
frame_words (model.first_binary payload) = codes "firstbinary " ++ hex_word payload
frame_words (model.continuation payload) = codes "cont " ++ hex_word payload
frame_words (model.last payload) = codes "last " ++ hex_word payload
frame_words (model.ping payload) = codes "ping " ++ hex_word payload
frame_words (model.pong payload) = codes "pong " ++ hex_word payload
frame_words (model.close reason) = close_words reason

-- a rule that is broken
abbrev pub rule_words : ProtocolError → List ℕ
rule_words errors.UnmaskedFrame = codes "unmasked-frame"
rule_words errors.MaskedFrame = codes "masked-frame"
rule_words (errors.InvalidOpcode number) = codes "invalid-opcode " ++ decimal number
rule_words errors.InvalidReservedBits = codes "invalid-reserved-bits"
rule_words (errors.InvalidLength n) = codes "invalid-length " ++ decimal n
rule_words errors.BadOpCode = codes "bad-op-code"
rule_words errors.Overflow = codes "overflow"
rule_words errors.ContinuationNotStarted = codes "continuation-not-started"
rule_words errors.ContinuationStarted = codes "continuation-started"
rule_words (errors.ContinuationFragment op) = codes "continuation-fragment " ++ opcode_text op
rule_words errors.Io = codes "io"
rule_words errors.NoMemory = codes "no-memory"

-- a check of an upgrade that fails
abbrev pub check_word : HandshakeError → List ℕ
check_word handshake.GetMethodRequired = codes "get-method-required"
check_word handshake.NoWebsocketUpgrade = codes "no-websocket-upgrade"
check_word handshake.NoConnectionUpgrade = codes "no-connection-upgrade"
check_word handshake.NoVersionHeader = codes "no-version-header"
check_word handshake.UnsupportedVersion = codes "unsupported-version"
check_word handshake.BadWebsocketKey = codes "bad-websocket-key"
