-- What a reply shows of what came: how many bytes and lines, where a body ends, a status, a version, an opcode and reasons.
use Rattle.std.specs.Prelude.{◌≡◌, ℕ, length, min, ⊤}
use Rattle.http_map.specs.HeaderMap.{value_count}
use Rattle.model_h1.specs.Frame as frames
use Rattle.h1_decoder.specs.declared.decoder.HeadItem.{HeadItem}
use Rattle.h1_decoder.specs.declared.response.ResponseItem.{ResponseItem}
use Rattle.h1_payload.specs.Rests.{fault_of as body_fault_of}
use Rattle.h1_payload.specs.declared.pulled.Pulled.{Pulled}
use Rattle.h1_payload.specs.declared.pulled.Pulled.TheVariants as pulled
use Rattle.ws_frames.specs.Codec.{frame_says}
use Rattle.h1_client.specs.ClientMeaning.{end_of as client_end_of}
use Rattle.h1_client.specs.HeadMeaning.{fault_of as answer_fault_of}
use Rattle.h1_client.specs.declared.event.NextAnswer.{NextAnswer}
use Rattle.h1_client.specs.declared.event.NextAnswer.TheVariants as next_answer
use Rattle.h1_connection.specs.EventMeaning.{end_of, fault_of, failing_of}
use Rattle.h1_connection.specs.declared.connection.frames.Accepted.{Accepted}
use Rattle.h1_connection.specs.declared.connection.frames.Accepted.TheVariants as accepted
use Rattle.h1_connection.specs.declared.connection.frames.PulledFrame.{PulledFrame}
use Rattle.h1_connection.specs.declared.connection.frames.PulledFrame.TheVariants as pulled_frame
use Rattle.h1_connection.specs.declared.connection.frames.Sent.{Sent}
use Rattle.h1_connection.specs.declared.connection.frames.Sent.TheVariants as sent
use Rattle.h1_connection.specs.declared.connection.heads.NextKind.{NextKind}
use Rattle.h1_connection.specs.declared.connection.heads.NextKind.TheVariants as next
use Rattle.h1_connection.specs.declared.connection.ticks.Expiry.{Expiry}
use Rattle.h1_connection.specs.declared.connection.ticks.Expiry.TheVariants as expiry
use Rattle.raspcream.specs.Numbers.{body_said, length_said, minor_said, head_fault_said, body_fault_said, end_said, client_end_said, rule_said, check_said, opcode_said, payload_said, code_told}
use Rattle.raspcream.specs.declared.reply.Reply.{Reply}
use Rattle.raspcream.specs.declared.reply.TheConstants.{MAX_FIELDS}

-- a request's head
pub record ShowsHead (item : HeadItem) (reply : Reply) : Type 0 where
  pub method : reply.method.len ≡ length item.head.method
  pub target : reply.target.len ≡ length item.target
  pub minor : reply.minor ≡ minor_said item.head.version
  pub body : reply.body ≡ body_said item.body
  pub number : reply.number ≡ length_said item.body
  pub lines : reply.count ≡ min (value_count item.head.headers) MAX_FIELDS

abbrev pub ShowsNext : HeadItem → NextKind → Reply → Type 0
ShowsNext item next.Head reply = ShowsHead item reply
ShowsNext item (next.Fault fault) reply = reply.reason ≡ head_fault_said (fault_of fault)
ShowsNext item next.Pending reply = ⊤
ShowsNext item (next.Closed end) reply = reply.reason ≡ end_said (end_of end)

-- an answer's, with its reason where a request's method stands
pub record ShowsAnswer (item : ResponseItem) (reply : Reply) : Type 0 where
  pub status : reply.reason ≡ item.head.status
  pub words : reply.method.len ≡ length item.reason
  pub minor : reply.minor ≡ minor_said item.head.version
  pub body : reply.body ≡ body_said item.body
  pub number : reply.number ≡ length_said item.body
  pub lines : reply.count ≡ min (value_count item.head.headers) MAX_FIELDS

abbrev pub ShowsNextAnswer : NextAnswer → Reply → Type 0
ShowsNextAnswer (next_answer.Answer item) reply = ShowsAnswer item reply
ShowsNextAnswer (next_answer.Fault fault) reply = reply.reason ≡ head_fault_said (answer_fault_of fault)
ShowsNextAnswer next_answer.Pending reply = ⊤
ShowsNextAnswer (next_answer.Closed end) reply = reply.reason ≡ client_end_said (client_end_of end)

-- a piece of a body, its trailers, or what is wrong with it
abbrev pub ShowsPulled : Pulled → Reply → Type 0
ShowsPulled (pulled.Bytes bytes) reply = reply.bytes.len ≡ length bytes
ShowsPulled (pulled.Trailers trailers) reply = reply.count ≡ min (value_count trailers) MAX_FIELDS
ShowsPulled pulled.End reply = ⊤
ShowsPulled (pulled.Broken fault) reply = reply.reason ≡ body_fault_said (body_fault_of fault)
ShowsPulled pulled.Pending reply = ⊤

-- why a time ran out
abbrev pub ShowsExpiry : Expiry → Reply → Type 0
ShowsExpiry expiry.None reply = ⊤
ShowsExpiry (expiry.Expired end) reply = reply.reason ≡ end_said (end_of end)
ShowsExpiry expiry.Abandoned reply = ⊤

-- ---- WebSocket

-- the check that an upgrade fails
abbrev pub ShowsAccepted : Accepted → Reply → Type 0
ShowsAccepted accepted.Done reply = ⊤
ShowsAccepted (accepted.Refused error) reply = reply.reason ≡ check_said (failing_of error)

-- a frame
pub record ShowsFrame (frame : frames.Frame) (reply : Reply) : Type 0 where
  pub opcode : reply.minor ≡ opcode_said frame
  pub payload : reply.bytes.len ≡ length (payload_said frame)
  pub code : reply.number ≡ code_told frame

-- a frame, or the rule that the peer broke
abbrev pub ShowsPulledFrame : PulledFrame → Reply → Type 0
ShowsPulledFrame (pulled_frame.Frame frame) reply = ShowsFrame (frame_says frame) reply
ShowsPulledFrame (pulled_frame.Protocol error) reply = reply.reason ≡ rule_said error
ShowsPulledFrame pulled_frame.Pending reply = ⊤

-- the rule that a message breaks
abbrev pub ShowsSent : Sent → Reply → Type 0
ShowsSent sent.Done reply = ⊤
ShowsSent (sent.Protocol error) reply = reply.reason ≡ rule_said error

-- ---- what a line of the library leaves

-- all but the lines is kept
pub record KeepsRest (before after : Reply) : Type 0 where
  pub kind : after.kind ≡ before.kind
  pub reason : after.reason ≡ before.reason
  pub number : after.number ≡ before.number
  pub method : after.method ≡ before.method
  pub target : after.target ≡ before.target
  pub minor : after.minor ≡ before.minor
  pub body : after.body ≡ before.body
