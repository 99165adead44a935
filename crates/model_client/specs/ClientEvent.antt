-- What happens to the client's side of a connection, and what it answers.
use Rattle.std.specs.Prelude.{ℕ, List}
use Rattle.model_h1.specs.Request.{Header, ConnectionType, Fault}
use Rattle.model_h1.specs.Answer.{BodySize}
use Rattle.model_h1.specs.Event.{BodyFault}
use Rattle.model_client.specs.AnswerReading.{Answer}
use Rattle.model_client.specs.RequestText.{AskedHead}

-- a request's head, and what it asks of the connection
pub record ClientRequest : Type 0 where
  pub head : AskedHead
  pub connection : ConnectionType

-- What happens. A request is asked; its body comes in pieces, and ends or fails. A read and the end of the input come from
-- the server. The next answer is asked for, and more of its body, or the rest of a body is dropped. So many bytes are
-- fetched for writing. A moment has come, in milliseconds since 1970.
pub data ClientEvent : Type 0 where
  ask : ClientRequest → BodySize → ClientEvent
  chunk : List ℕ → ClientEvent
  body_end body_error : ClientEvent
  read : List ℕ → ClientEvent
  eof next pull drop_body : ClientEvent
  write : ℕ → ClientEvent
  tick : ℕ → ClientEvent

-- Why a connection ends: an answer's head is faulty, or too large; its body is broken, or the input ended inside it; a
-- request's body failed, or has fewer bytes than its head states; after its last answer nothing may follow, since a side
-- asked for that, or for another protocol, or since the answer's lines are ambiguous; bytes came that no request asked for;
-- the input has ended.
pub data ClientEnd : Type 0 where
  bad_answer large_answer broken_answer failed_request asked unasked input_ended : ClientEnd

-- What is answered to an event.
pub data ClientOutcome : Type 0 where
  -- so many of the bytes were taken
  took : ℕ → ClientOutcome
  -- the next answer's head; bytes of its body, then its trailers, then its end; nothing yet
  answer : Answer → ClientOutcome
  bytes : List ℕ → ClientOutcome
  trailers : List Header → ClientOutcome
  body_ended : ClientOutcome
  pending : ClientOutcome
  -- the connection closes, and why
  closed : ClientEnd → ClientOutcome
  -- what is wrong with a head, and with a body
  fault : Fault → ClientOutcome
  broken_by : BodyFault → ClientOutcome
  -- the bytes to write
  gave : List ℕ → ClientOutcome
  -- all else is done
  done : ClientOutcome
