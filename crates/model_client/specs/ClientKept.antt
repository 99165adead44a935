-- What the client's side of a connection keeps, why it closes, and what is allowed.
use Rattle.std.specs.Prelude.{ℕ, Bool, true, false, not, ◌&&◌, ◌||◌, List, [], ◌∷◌, length, codes, bytes_eq, nat_lt, nat_le, ◌==◌, if◌then◌else◌, Option, Some, None, is_some, is_none}
use Rattle.std.specs.List.{list_any}
use Rattle.model_h1.specs.Setting.{Setting}
use Rattle.model_h1.specs.LengthTable.{values_of, is_there}
use Rattle.model_h1.specs.Answer.{BodySize, size_of, Shape, shape_chunked, shape_raw}
use Rattle.model_h1.specs.Closing.{is_kept}
use Rattle.model_h1.specs.Facts.{may_follow}
use Rattle.model_state.specs.Kept.{Rest}
use Rattle.model_client.specs.RequestText.{asked_shape}
use Rattle.model_client.specs.ClientEvent.{ClientRequest, ClientEvent, ask, chunk, body_end, body_error, read, eof, next, pull, drop_body, write, tick, ClientEnd, asked, unasked, input_ended}

-- A request whose answer wasn't handed out: its method, and whether no other request may follow it and the connection
-- closes after its answer.
pub record Waiting : Type 0 where
  pub method : List ℕ
  pub closes : Bool

-- the body of the last request, until it has ended: its shape, and how many bytes of a stated length are missing
pub record SendingBody : Type 0 where
  pub shape : Shape
  pub missing : ℕ

-- The answer that was handed out last: what is left of its body, whether the body's end or fault was told, and whether the
-- body is dropped.
pub record ReadingBody : Type 0 where
  pub rest : Rest
  pub is_done : Bool
  pub was_dropped : Bool

-- What is kept between two events.
pub record ClientKept : Type 0 where
  -- the bytes taken and not passed, and whether a whole head stands there that is next to be handed out
  pub unread : List ℕ
  pub is_coming : Bool
  -- the input has ended; nothing is allowed any more
  pub has_ended : Bool
  pub is_over : Bool
  -- the requests that wait for their answers, the first first
  pub waiting : List Waiting
  pub sending : Option SendingBody
  pub reading : Option ReadingBody
  -- after the last answer the connection closes: the answer or its request says so, or other readers would frame the
  -- answer in another way
  pub closes : Bool
  -- what is to be written, which has no bound
  pub buffered : List ℕ
  -- the moment of the last tick, 0 before the first
  pub now : ℕ
  -- the end that a fault has brought
  pub failed : Option ClientEnd

-- a connection to which nothing has happened
abbrev pub fresh_client : ClientKept
fresh_client = record {
  unread = [];
  is_coming = false;
  has_ended = false;
  is_over = false;
  waiting = [];
  sending = None;
  reading = None;
  closes = false;
  buffered = [];
  now = 0;
  failed = None;
}

-- ---- what the parts say

-- nothing of the last answer is left to do, so that the next one may come
abbrev pub is_free_of : Option ReadingBody → Bool
is_free_of None = true
is_free_of (Some body) = body.is_done

abbrev pub is_free : ClientKept → Bool
is_free k = is_free_of k.reading

-- the rest of the last answer's body isn't wanted
abbrev pub is_dropped_of : Option ReadingBody → Bool
is_dropped_of None = false
is_dropped_of (Some body) = body.was_dropped

abbrev pub is_dropped : ClientKept → Bool
is_dropped k = is_dropped_of k.reading

-- a request waits for its answer
abbrev pub is_waited_for : List Waiting → Bool
is_waited_for [] = false
is_waited_for (w ∷ ws) = true

-- there are some
abbrev pub has_bytes : List ℕ → Bool
has_bytes [] = false
has_bytes (b ∷ bytes) = true

-- Why the connection closes, the first that holds: a fault; while an answer is read nothing else; a side asked for it; bytes
-- that no request asked for; the input has ended, and no whole head is coming.
abbrev pub client_closing : ClientKept → Option ClientEnd
client_closing k =
    if is_some k.failed then k.failed
    else (if not (is_free k) then None
    else (if k.closes then Some asked
    else (if not (is_waited_for k.waiting) && has_bytes k.unread then Some unasked
    else (if k.has_ended && not k.is_coming then Some input_ended else None))))

-- a further request may be asked once all is done, as a pool of connections wants to know
abbrev pub is_reusable : ClientKept → Bool
is_reusable k =
    is_none (client_closing k) && is_free k && not (is_waited_for k.waiting) && is_none k.sending
    && not (has_bytes k.unread) && not (has_bytes k.buffered) && not k.has_ended

-- A request waits from the moment when it is asked. It is the last one where it asks that the connection closes, and where
-- it asks for another protocol: a server may take what follows for that protocol (RFC 9110, section 7.8).
abbrev pub waiting_of : ClientRequest → Waiting
waiting_of r = record {
  method = r.head.method;
  closes = not (is_kept r.connection) || is_there (values_of (codes "upgrade") r.head.headers);
}

-- ---- what is allowed

-- a server finds the end of such a body: none goes on to the end of the connection, and HTTP/1.0 knows no chunks
abbrev pub can_be_framed : ℕ → Shape → Bool
can_be_framed minor shape_raw = false
can_be_framed minor shape_chunked = minor == 1
can_be_framed minor _ = true

-- a line states the length, also a length of 0
abbrev pub states_length : BodySize → Bool
states_length (size_of n) = true
states_length _ = false

-- a POST of HTTP/1.0 that states no length, which servers refuse (RFC 1945, section 8.3)
abbrev pub lacks_length : ClientRequest → BodySize → Bool
lacks_length r size = (r.head.minor == 0) && bytes_eq r.head.method (codes "POST") && not (states_length size)

-- A request is in HTTP/1.0 or 1.1, of a method other than CONNECT, its body can be framed, and it lacks no length.
abbrev pub can_be_sent : ClientRequest → BodySize → Bool
can_be_sent r size =
    nat_le r.head.minor 1 && not (bytes_eq r.head.method (codes "CONNECT")) && can_be_framed r.head.minor (asked_shape size)
    && not (lacks_length r size)

-- a request that waits is the last one, or an answer asked that the connection closes: no other request would be answered
abbrev pub is_last : ClientKept → Bool
is_last k = k.closes || list_any (λ w. w.closes) k.waiting

-- fewer bytes are to be written than may wait
abbrev pub has_room : Setting → ClientKept → Bool
has_room setting k = nat_lt (length k.buffered) setting.write_buffer

-- while the connection doesn't close: of a dropped body nothing is pulled, since the text of its trailers isn't kept
abbrev pub allowed_running : Setting → ClientKept → ClientEvent → Bool
allowed_running setting k (ask r size) = is_none k.sending && not (is_last k) && can_be_sent r size && has_room setting k
allowed_running setting k (chunk bytes) = is_some k.sending && has_room setting k
allowed_running setting k body_end = is_some k.sending
allowed_running setting k body_error = is_some k.sending
allowed_running setting k (read bytes) = not k.has_ended
allowed_running setting k eof = not k.has_ended
allowed_running setting k next = is_free k
allowed_running setting k pull = not (is_free k) && not (is_dropped k)
allowed_running setting k drop_body = not (is_free k)
allowed_running setting k (write n) = true
allowed_running setting k (tick ms) = true

-- while it closes what is buffered is written, and the end is told
abbrev pub allowed_closing : ClientEvent → Bool
allowed_closing (write n) = true
allowed_closing (tick ms) = true
allowed_closing next = true
allowed_closing _ = false

-- a tick isn't before the last one, and is before the year 10000
abbrev pub is_moment : ClientKept → ClientEvent → Bool
is_moment k (tick ms) = may_follow k.now ms
is_moment k _ = true

abbrev pub client_allows : Setting → ClientKept → ClientEvent → Bool
client_allows setting k event =
    not k.is_over && is_moment k event
    && (if is_some (client_closing k) then allowed_closing event else allowed_running setting k event)
