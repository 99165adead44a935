-- What happens to a connection, and what it answers.
use Rattle.std.specs.Prelude.{ℕ, List}
use Rattle.model_h1.specs.Request.{Header, Head, Fault}
use Rattle.model_h1.specs.Answer.{AnswerHead, BodySize}
use Rattle.model_h1.specs.Frame.{Frame, Message, ProtocolError}
use Rattle.model_h1.specs.Handshake.{HandshakeError}
use Rattle.model_h1.specs.End.{End}

-- What happens to a connection. A read and the end of the input come from the peer. The next request is asked for,
-- and more of its body, or, on a WebSocket, the next frame; the rest of a body is dropped, or its client, which
-- waits, is told to go on.
pub data Event : Type 0 where
  read : List ℕ → Event
  eof next pull drop_body send_continue : Event
  -- a request is answered; the answer's body comes in pieces, and ends or fails
  answer : AnswerHead → BodySize → Event
  chunk : List ℕ → Event
  body_end body_error : Event
  -- so many bytes are fetched for writing
  write : ℕ → Event
  -- a moment has come, in milliseconds since 1970
  tick : ℕ → Event
  -- the connection is to end soon
  drain : Event
  -- a WebSocket is accepted, of whose frames none has a longer payload than so many bytes; a message is sent on it
  accept : ℕ → Event
  send : Message → Event

-- what is wrong with a body: it breaks the grammar of chunks, or the input ended inside it
pub data BodyFault : Type 0 where
  corrupted incomplete : BodyFault

-- What a connection answers to an event.
pub data Outcome : Type 0 where
  -- so many of the bytes were taken
  took : ℕ → Outcome
  -- the next request's head; bytes of its body, then its trailers, then its end; the next frame; nothing yet
  head : Head → Outcome
  bytes : List ℕ → Outcome
  trailers : List Header → Outcome
  body_ended : Outcome
  frame : Frame → Outcome
  pending : Outcome
  -- the connection closes, and why
  closed : End → Outcome
  -- what is wrong with a head, with a body, with frames, with a handshake
  fault : Fault → Outcome
  broken_by : BodyFault → Outcome
  protocol : ProtocolError → Outcome
  refused : HandshakeError → Outcome
  -- the bytes to write
  gave : List ℕ → Outcome
  -- a time ran out; the peer, which takes no bytes, isn't waited for any more; all else is done
  expired : End → Outcome
  abandoned done : Outcome
