-- The numbers by which C names what is asked, and is told what came.
use Rattle.std.specs.Prelude.{ℕ, ◌==◌, List, [], Option, Some, None, unwrap_or, Result, Ok, Err, if◌then◌else◌}
use Rattle.http.specs.declared.version.Version.{Version}
use Rattle.model_h1.specs.Answer as answers
use Rattle.model_h1.specs.End as ends
use Rattle.model_h1.specs.Event as on
use Rattle.model_h1.specs.Frame as frames
use Rattle.model_h1.specs.Handshake as checks
use Rattle.model_h1.specs.Request as heads
use Rattle.model_client.specs.ClientEvent as asking
use Rattle.h1_encoder.specs.RequestMeaning.{asked_minor}
use Rattle.ws_frames.specs.declared.error.ProtocolError.{ProtocolError}
use Rattle.ws_frames.specs.declared.error.ProtocolError.TheVariants as rules
use Rattle.http_framing.specs.declared.body.kind.BodyKind.{BodyKind}
use Rattle.http_framing.specs.declared.body.kind.BodyKind.TheVariants as body
use Rattle.h1_payload.specs.declared.pulled.Pulled.{Pulled}
use Rattle.h1_payload.specs.declared.pulled.Pulled.TheVariants as pulled
use Rattle.h1_client.specs.declared.event.NextAnswer.{NextAnswer}
use Rattle.h1_client.specs.declared.event.NextAnswer.TheVariants as next_answer
use Rattle.h1_connection.specs.declared.connection.frames.Accepted.{Accepted}
use Rattle.h1_connection.specs.declared.connection.frames.Accepted.TheVariants as accepted
use Rattle.h1_connection.specs.declared.connection.frames.PulledFrame.{PulledFrame}
use Rattle.h1_connection.specs.declared.connection.frames.PulledFrame.TheVariants as pulled_frame
use Rattle.h1_connection.specs.declared.connection.frames.Sent.{Sent}
use Rattle.h1_connection.specs.declared.connection.frames.Sent.TheVariants as sent
use Rattle.h1_connection.specs.declared.connection.heads.NextKind.{NextKind}
use Rattle.h1_connection.specs.declared.connection.heads.NextKind.TheVariants as next
use Rattle.h1_connection.specs.declared.connection.ticks.Expiry.{Expiry}
use Rattle.h1_connection.specs.declared.connection.ticks.Expiry.TheVariants as expiry
use Rattle.raspcream.specs.declared.op.Op.{Op}
use Rattle.raspcream.specs.declared.op.Op.TheVariants as asks
use Rattle.raspcream.specs.declared.reply.Failure.{Failure}
use Rattle.raspcream.specs.declared.reply.Failure.TheVariants.{NoMemory, Misplaced, Invalid}

-- what is asked
abbrev pub number_of : Op → ℕ
number_of asks.Read = 0
number_of asks.Eof = 1
number_of asks.Next = 2
number_of asks.Pull = 3
number_of asks.DropBody = 4
number_of asks.Continue = 5
number_of asks.Head = 6
number_of asks.Chunk = 7
number_of asks.End = 8
number_of asks.Fail = 9
number_of asks.Front = 10
number_of asks.Advance = 11
number_of asks.Tick = 12
number_of asks.Drain = 13
number_of asks.Accept = 14
number_of asks.Frame = 15
number_of asks.Send = 16
number_of asks.State = 17
number_of asks.Held = 18
number_of asks.Ahead = 19

-- the size that a number names
abbrev pub size_said : ℕ → answers.BodySize
size_said number =
    if number == 18446744073709551615 then answers.size_stream
    else (if number == 18446744073709551614 then answers.size_none else answers.size_of number)

-- the code of what a call answers
abbrev pub code_said : Result (Unit {0}) Failure → ℕ
code_said (Ok done) = 0
code_said (Err NoMemory) = 1
code_said (Err Misplaced) = 2
code_said (Err Invalid) = 3

-- ---- what came

-- where a body ends, and the length that is stated
abbrev pub body_said : BodyKind → ℕ
body_said body.None = 0
body_said (body.Length length) = 1
body_said body.Chunked = 2
body_said body.Raw = 3

abbrev pub length_said : BodyKind → ℕ
length_said body.None = 0
length_said (body.Length length) = length
length_said body.Chunked = 0
length_said body.Raw = 0

-- where the next request, or the next answer, was asked for
abbrev pub kind_of : NextKind → ℕ
kind_of next.Head = 2
kind_of (next.Fault fault) = 3
kind_of next.Pending = 4
kind_of (next.Closed end) = 5

abbrev pub answer_kind : NextAnswer → ℕ
answer_kind (next_answer.Answer item) = 2
answer_kind (next_answer.Fault fault) = 3
answer_kind next_answer.Pending = 4
answer_kind (next_answer.Closed end) = 5

-- of a body
abbrev pub pulled_kind : Pulled → ℕ
pulled_kind (pulled.Bytes bytes) = 6
pulled_kind (pulled.Trailers trailers) = 7
pulled_kind pulled.End = 8
pulled_kind (pulled.Broken fault) = 9
pulled_kind pulled.Pending = 4

-- with a moment
abbrev pub expiry_kind : Expiry → ℕ
expiry_kind expiry.None = 0
expiry_kind (expiry.Expired end) = 11
expiry_kind expiry.Abandoned = 12

-- of an upgrade to WebSocket, of a frame, and of a message
abbrev pub accepted_kind : Accepted → ℕ
accepted_kind accepted.Done = 0
accepted_kind (accepted.Refused error) = 15

abbrev pub frame_kind : PulledFrame → ℕ
frame_kind (pulled_frame.Frame frame) = 13
frame_kind (pulled_frame.Protocol error) = 14
frame_kind pulled_frame.Pending = 4

abbrev pub sent_kind : Sent → ℕ
sent_kind sent.Done = 0
sent_kind (sent.Protocol error) = 14

-- ---- what it says

-- 0 for HTTP/1.0, and 1 for what is newer
abbrev pub minor_said : Version → ℕ
minor_said version = if asked_minor version == 0 then 0 else 1

-- what is wrong with a head, and with a body
abbrev pub head_fault_said : heads.Fault → ℕ
head_fault_said heads.malformed = 1
head_fault_said heads.too_large = 2

abbrev pub body_fault_said : on.BodyFault → ℕ
body_fault_said on.corrupted = 1
body_fault_said on.incomplete = 2

-- why a connection ends
abbrev pub end_said : ends.End → ℕ
end_said ends.malformed = 1
end_said ends.too_large = 2
end_said ends.slow_request = 3
end_said ends.keep_alive_expired = 4
end_said ends.protocol = 5
end_said ends.body = 6
end_said ends.body_short = 7
end_said ends.asked = 8
end_said ends.broken_body = 9
end_said ends.unread_body = 10
end_said ends.drained = 11
end_said ends.half_closed = 12
end_said ends.input_ended = 13

abbrev pub client_end_said : asking.ClientEnd → ℕ
client_end_said asking.bad_answer = 1
client_end_said asking.large_answer = 2
client_end_said asking.broken_answer = 9
client_end_said asking.failed_request = 6
client_end_said asking.asked = 8
client_end_said asking.unasked = 14
client_end_said asking.input_ended = 13

-- 0 where it doesn't end
abbrev pub reason_said : Option ends.End → ℕ
reason_said None = 0
reason_said (Some end) = end_said end

abbrev pub client_reason_said : Option asking.ClientEnd → ℕ
client_reason_said None = 0
client_reason_said (Some end) = client_end_said end

-- a rule of WebSocket that is broken, and a check that an upgrade fails
abbrev pub rule_said : ProtocolError → ℕ
rule_said rules.UnmaskedFrame = 1
rule_said rules.MaskedFrame = 2
rule_said (rules.InvalidOpcode opcode) = 3
rule_said rules.InvalidReservedBits = 4
rule_said (rules.InvalidLength length) = 5
rule_said rules.BadOpCode = 6
rule_said rules.Overflow = 7
rule_said rules.ContinuationNotStarted = 8
rule_said rules.ContinuationStarted = 9
rule_said (rules.ContinuationFragment opcode) = 10
rule_said rules.Io = 11
rule_said rules.NoMemory = 12

abbrev pub check_said : checks.HandshakeError → ℕ
check_said checks.get_method_required = 1
check_said checks.no_websocket_upgrade = 2
check_said checks.no_connection_upgrade = 3
check_said checks.no_version_header = 4
check_said checks.unsupported_version = 5
check_said checks.bad_websocket_key = 6

-- a frame's opcode: those of a message in fragments say which part they are
abbrev pub opcode_said : frames.Frame → ℕ
opcode_said (frames.text payload) = 1
opcode_said (frames.binary payload) = 2
opcode_said (frames.first_text payload) = 17
opcode_said (frames.first_binary payload) = 18
opcode_said (frames.continuation payload) = 16
opcode_said (frames.last payload) = 0
opcode_said (frames.ping payload) = 9
opcode_said (frames.pong payload) = 10
opcode_said (frames.close reason) = 8

-- of a Close the code and the text of its reason
abbrev pub close_said : Option frames.CloseReason → ℕ
close_said None = 0
close_said (Some reason) = reason.code

abbrev pub words_said : Option frames.CloseReason → List ℕ
words_said None = []
words_said (Some reason) = unwrap_or reason.description []

-- a frame's payload: of a Close the text
abbrev pub payload_said : frames.Frame → List ℕ
payload_said (frames.text payload) = payload
payload_said (frames.binary payload) = payload
payload_said (frames.first_text payload) = payload
payload_said (frames.first_binary payload) = payload
payload_said (frames.continuation payload) = payload
payload_said (frames.last payload) = payload
payload_said (frames.ping payload) = payload
payload_said (frames.pong payload) = payload
payload_said (frames.close reason) = words_said reason

-- the code of a Close, 0 for none; of another frame 0
abbrev pub code_told : frames.Frame → ℕ
code_told (frames.text payload) = 0
code_told (frames.binary payload) = 0
code_told (frames.first_text payload) = 0
code_told (frames.first_binary payload) = 0
code_told (frames.continuation payload) = 0
code_told (frames.last payload) = 0
code_told (frames.ping payload) = 0
code_told (frames.pong payload) = 0
code_told (frames.close reason) = close_said reason
