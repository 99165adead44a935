-- What a connection keeps: bounded parts, each a value of the model's.
use Rattle.std.specs.Prelude.{ℕ, ◌==◌, Bool, true, false, not, ◌&&◌, ◌||◌, List, [], if◌then◌else◌, Option, Some, None, unwrap_or}
use Rattle.model_h1.specs.Place.{Place, start}
use Rattle.model_h1.specs.Request.{BodyKind, no_body, fixed_body, chunked_body, raw_body, ConnectionType, Head, has_body, is_raw_kind}
use Rattle.model_h1.specs.Answer.{Asked, asked_of, Shape}
use Rattle.model_h1.specs.Handshake.{HandshakeError, handshake_error, accept_key_of}
use Rattle.model_h1.specs.End.{End}
use Rattle.model_h1.specs.Event.{Outcome}

-- What is left of a request's body.
pub data Rest : Type 0 where
  -- nothing, or all up to the end of the input
  no_rest raw_rest : Rest
  -- so many bytes, of which there are some
  fixed_rest : ℕ → Rest
  -- chunks, from a place that is not the end, with the text of the trailer lines so far
  chunks_rest : Place → List ℕ → Rest
  -- frames, with whether a message in fragments is under way, and the limit of their payloads
  frames_rest : Bool → ℕ → Rest

-- How far the answer to a request is.
pub data Reply : Type 0 where
  unanswered : Reply
  -- its body is going out in a shape; what becomes of the connection behind it; how many bytes of a stated length
  -- are missing
  sending : Shape → ConnectionType → ℕ → Reply
  -- it is complete, and this becomes of the connection
  answered : ConnectionType → Reply

-- The last request that was handed out, without its head, and what happened since.
pub record Exchange : Type 0 where
  -- what its answer needs of it; whether it has a body; whether its client waits to be told to go on
  pub asked : Asked
  pub has_body : Bool
  pub expects : Bool
  -- why an upgrade to WebSocket would be refused, and the answer to its key
  pub refusal : Option HandshakeError
  pub accept_key : List ℕ
  pub rest : Rest
  pub reply : Reply
  pub was_pulled : Bool
  pub was_dropped : Bool
  pub had_continue : Bool
  -- a pull told the end or the fault of the body
  pub body_is_done : Bool

-- the moments of the first and of the last tick, and of the last one before the last answer was complete
pub record Clock : Type 0 where
  pub first : Option ℕ
  pub last : Option ℕ
  pub completed : Option ℕ

-- What a connection keeps between two events.
pub record Kept : Type 0 where
  -- the bytes taken and not passed, and whether a whole head stands there that is next to be handed out
  pub unread : List ℕ
  pub is_coming : Bool
  -- the input has ended; a drain came; nothing is allowed any more
  pub has_ended : Bool
  pub is_draining : Bool
  pub is_over : Bool
  -- the last request, if one was handed out
  pub exchange : Option Exchange
  -- what is to be written, which has no bound; and whether a message in fragments is being sent
  pub buffered : List ℕ
  pub is_sending : Bool
  pub clock : Clock
  -- the end that a fault, an expiry, a broken rule of WebSocket or an answer's body that failed or is short has
  -- brought; and the last tick before the connection began to close
  pub failed : Option End
  pub closing_since : Option (Option ℕ)

-- an outcome, and what is kept behind it
pub record Change : Type 0 where
  pub outcome : Outcome
  pub kept : Kept

-- a connection to which nothing has happened
abbrev pub fresh : Kept
fresh =
    record {
      unread = [];
      is_coming = false;
      has_ended = false;
      is_draining = false;
      is_over = false;
      exchange = None;
      buffered = [];
      is_sending = false;
      clock = record { first = None; last = None; completed = None };
      failed = None;
      closing_since = None;
    }

-- what is left of a body of which nothing was read
abbrev pub whole_rest : BodyKind → Rest
whole_rest no_body = no_rest
whole_rest (fixed_body n) = if n == 0 then no_rest else fixed_rest n
whole_rest chunked_body = chunks_rest start []
whole_rest raw_body = raw_rest

-- with the input a raw body ends of which no byte is left
abbrev pub rest_in : Bool → List ℕ → Rest → Rest
rest_in true [] raw_rest = no_rest
rest_in has_ended unread rest = rest

-- Why a raw request can't be upgraded to a WebSocket, and the answer to its key. No other request may be upgraded,
-- so nothing is worked out for one.
abbrev pub refusal_of : Head → Option HandshakeError
refusal_of h = if is_raw_kind h.body then handshake_error h else None

abbrev pub key_answer_of : Head → List ℕ
key_answer_of h = if is_raw_kind h.body then accept_key_of h else []

-- a request that was just handed out, and what is left of its body
abbrev pub new_exchange : Rest → Head → Exchange
new_exchange rest h =
    record {
      asked = asked_of h;
      has_body = has_body h.body;
      expects = h.expects;
      refusal = refusal_of h;
      accept_key = key_answer_of h;
      rest = rest;
      reply = unanswered;
      was_pulled = false;
      was_dropped = false;
      had_continue = false;
      body_is_done = false;
    }

-- ---- what the parts say

abbrev pub is_frames : Rest → Bool
is_frames (frames_rest under_way limit) = true
is_frames _ = false

abbrev pub is_nothing : Rest → Bool
is_nothing no_rest = true
is_nothing _ = false

abbrev pub is_unanswered : Reply → Bool
is_unanswered unanswered = true
is_unanswered _ = false

abbrev pub is_answered : Reply → Bool
is_answered (answered kind) = true
is_answered _ = false

abbrev pub is_sending_body : Reply → Bool
is_sending_body (sending shape kind missing) = true
is_sending_body _ = false

-- of the last request, where there is one
abbrev pub of_exchange : (Exchange → Bool) → Kept → Bool
of_exchange test k = holds k.exchange
  where
    holds : Option Exchange → Bool
    holds None = false
    holds (Some x) = test x

-- the connection speaks WebSocket
abbrev pub is_upgraded : Kept → Bool
is_upgraded k = of_exchange (λ x. is_frames x.rest) k

-- a request was handed out and its answer isn't complete; a WebSocket stays open
abbrev pub is_open : Kept → Bool
is_open k = of_exchange (λ x. is_frames x.rest || not (is_answered x.reply)) k

-- nothing of the last request is left to do, so that the next one may come
abbrev pub is_free : Kept → Bool
is_free k = free k.exchange
  where
    free : Option Exchange → Bool
    free None = true
    free (Some x) = is_answered x.reply && is_nothing x.rest

-- the moment, which is 0 before the first tick
abbrev pub now : Kept → ℕ
now k = unwrap_or k.clock.last 0
