-- WebSocket messages and what can be wrong with their frames (RFC 6455, sections 5 and 7.4).
use Rattle.std.specs.Prelude.{ℕ, List, Option}

-- why a peer closes: a code, and a text where one was given
pub record CloseReason : Type 0 where
  pub code : ℕ
  pub description : Option (List ℕ)

-- A frame with its payload. A message in fragments is a first one, continuations and a last one.
pub data Frame : Type 0 where
  text binary first_text first_binary continuation last ping pong : List ℕ → Frame
  close : Option CloseReason → Frame

-- what is sent: a frame, or nothing at all
pub data Message : Type 0 where
  frame : Frame → Message
  nop : Message

-- the rule that a frame breaks; the numbers are the opcode and the payload's length
pub data ProtocolError : Type 0 where
  unmasked_frame masked_frame invalid_reserved_bits bad_op_code overflow : ProtocolError
  continuation_not_started continuation_started : ProtocolError
  invalid_opcode invalid_length continuation_fragment : ℕ → ProtocolError
