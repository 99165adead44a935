-- An answer's head as plain values, and how its body is framed (RFC 7230, sections 3.3 and 6.1).
use Rattle.std.specs.Prelude.{ℕ, Bool, true, false, not, ◌&&◌, ◌||◌, List, codes, bytes_eq, nat_lt, ◌==◌, if◌then◌else◌, Option, Some, None}
use Rattle.std.specs.List.{list_any}
use Rattle.model_h1.specs.Request.{Header, ConnectionType, close, keep_alive, upgrade, Head, is_raw_kind}
use Rattle.model_h1.specs.Setting.{Setting, keeps}

-- The reason is the text of the answer's own, where it has one. A flag that is set says what the answer
-- asks of the connection, that a stream isn't to be sent in chunks, or that names are sent in camel case.
pub record AnswerHead : Type 0 where
  pub status : ℕ
  pub reason : Option (List ℕ)
  pub closes : Bool
  pub keeps_alive : Bool
  pub upgrades : Bool
  pub no_chunking : Bool
  pub in_camel_case : Bool
  pub headers : List Header

-- What an answer needs of its request: the minor number of its version, whether it is HEAD, whether its body
-- is raw, and what it asks of the connection.
pub record Asked : Type 0 where
  pub minor : ℕ
  pub is_head : Bool
  pub is_raw : Bool
  pub connection : ConnectionType

abbrev pub asked_of : Head → Asked
asked_of request =
    record {
      minor = request.minor;
      is_head = bytes_eq request.method (codes "HEAD");
      is_raw = is_raw_kind request.body;
      connection = request.connection;
    }

-- how large an answer's body is: there is none, so many bytes, or nobody knows yet
pub data BodySize : Type 0 where
  size_none size_stream : BodySize
  size_of : ℕ → BodySize

-- the answer has no body that would have to be ended
abbrev pub is_at_once : BodySize → Bool
is_at_once size_none = true
is_at_once (size_of n) = n == 0
is_at_once size_stream = false

-- how the body goes out
pub data Shape : Type 0 where
  shape_none shape_chunked shape_raw : Shape
  shape_length : ℕ → Shape

-- a status whose head has no line about a length: 1xx, 204 and 304. Of these only 101 has a body.
abbrev pub is_bodiless : ℕ → Bool
is_bodiless status = nat_lt status 200 || (status == 204) || (status == 304)

-- a stream goes out raw where the request was raw, the client is of HTTP/1.0, or chunks aren't wanted
abbrev pub stream_shape : Asked → AnswerHead → Shape
stream_shape asked answer = if asked.is_raw || (asked.minor == 0) || answer.no_chunking then shape_raw else shape_chunked

abbrev pub sized_shape : Asked → AnswerHead → BodySize → Shape
sized_shape asked answer size_none = shape_none
sized_shape asked answer (size_of n) = if n == 0 then shape_none else shape_length n
sized_shape asked answer size_stream = stream_shape asked answer

-- a 101 passes on what follows it
abbrev pub switching_shape : BodySize → Shape
switching_shape size_stream = shape_raw
switching_shape _ = shape_none

-- the shape of an answer's body (section 3.3.3); for HEAD it is that of the head alone
abbrev pub shape_of : Asked → AnswerHead → BodySize → Shape
shape_of asked answer size =
    if answer.status == 101 then switching_shape size
    else (if is_bodiless answer.status then shape_none else sized_shape asked answer size)

abbrev pub is_raw : Shape → Bool
is_raw shape_raw = true
is_raw _ = false

abbrev pub has_header : List ℕ → List Header → Bool
has_header name headers = list_any (λ h. bytes_eq h.name name) headers

-- what the flags say: closing before keeping alive before upgrading
abbrev pub flagged_type : AnswerHead → Option ConnectionType
flagged_type answer =
    if answer.closes then Some close
    else (if answer.keeps_alive then Some keep_alive else (if answer.upgrades then Some upgrade else None))

-- the connection keeps alive only where the setting does
abbrev pub allowed_type : Setting → ConnectionType → ConnectionType
allowed_type setting keep_alive = if keeps setting.keep_alive then keep_alive else close
allowed_type setting kind = kind

-- an answer may ask to close or to upgrade; that it would keep alive changes nothing
abbrev pub overridden_type : ConnectionType → Option ConnectionType → ConnectionType
overridden_type kind (Some close) = close
overridden_type kind (Some upgrade) = upgrade
overridden_type kind _ = kind

-- a raw body is ended by the connection's end, unless it says its length or belongs to the new protocol
abbrev pub raw_type : AnswerHead → Shape → ConnectionType → ConnectionType
raw_type answer shape kind =
    if is_raw shape && not (answer.status == 101) && not (has_header (codes "content-length") answer.headers) then close else kind

-- a connection that drains isn't kept alive
abbrev pub drained_type : Bool → ConnectionType → ConnectionType
drained_type drained keep_alive = if drained then close else keep_alive
drained_type drained kind = kind

-- what becomes of the connection behind an answer to this request
abbrev pub type_of : Setting → Bool → Asked → AnswerHead → BodySize → ConnectionType
type_of setting drained asked answer size =
    drained_type drained
    (raw_type answer (shape_of asked answer size)
    (overridden_type (allowed_type setting asked.connection) (flagged_type answer)))
