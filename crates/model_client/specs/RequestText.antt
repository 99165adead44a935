-- The text of a request as a client writes it (RFC 7230, sections 3.1.1 and 3.3), and what it says.
use Rattle.std.specs.Prelude.{◌≡◌, ℕ, ◌<◌, ◌≤◌, ◌^◌, Bool, false, List, [], ◌∷◌, ◌++◌, length, take, filter, flat_map, codes, bytes_eq, None, IsUtf8, ◌==◌, if◌then◌else◌, ⊤}
use Rattle.std.specs.List.{AllByRecursion}
use Rattle.http_header.specs.Token.{IsToken}
use Rattle.httparse.specs.Ascii.{space, crlf_bytes}
use Rattle.httparse.specs.Grammar.{IsToken as IsMethod, AllPass, is_uri_byte, print_version}
use Rattle.model_h1.specs.Request.{Header, ConnectionType, BodyKind, no_body, fixed_body, chunked_body, Head}
use Rattle.model_h1.specs.RequestHead.{IsTarget}
use Rattle.model_h1.specs.LengthTable.{values_of, connection_of, expects_continue}
use Rattle.model_h1.specs.Answer.{AnswerHead, BodySize, size_none, size_of, size_stream, Shape, shape_none, shape_length, shape_chunked}
use Rattle.model_h1.specs.AnswerText.{header_text, by_name, is_sent, chunk_text, last_chunk}
use Rattle.model_h1.specs.Limits.{MAX_HEADER_LINES}
use Rattle.model_client.specs.WrittenHead.{written_lines, IsCleanLine}

-- a request's head as a client gives it: HTTP/1.minor, and whether names are written in camel case
pub record AskedHead : Type 0 where
  pub method : List ℕ
  pub target : List ℕ
  pub minor : ℕ
  pub in_camel_case : Bool
  pub headers : List Header

-- its lines are those of an answer with a body that has its headers
abbrev pub as_answer : AskedHead → AnswerHead
as_answer r = record {
  status = 200;
  reason = None;
  closes = false;
  keeps_alive = false;
  upgrades = false;
  no_chunking = false;
  in_camel_case = r.in_camel_case;
  headers = r.headers;
}

-- all lines, in the order in which they are written
abbrev pub request_lines : AskedHead → Shape → BodySize → ConnectionType → ℕ → List Header
request_lines r shape size kind now = written_lines r.minor (as_answer r) shape size kind now

-- method SP target SP version CR LF, the lines, and an empty line
unfoldable pub request_text : AskedHead → Shape → BodySize → ConnectionType → ℕ → List ℕ
request_text r shape size kind now =
    r.method ++ space ∷ (r.target ++ space ∷ (print_version r.minor ++ (crlf_bytes
    ++ (flat_map (header_text r.in_camel_case) (request_lines r shape size kind now) ++ crlf_bytes))))

-- where its body ends, by its shape
abbrev pub kind_of_shape : Shape → BodyKind
kind_of_shape (shape_length n) = fixed_body n
kind_of_shape shape_chunked = chunked_body
kind_of_shape _ = no_body

-- what the head says to a server
abbrev pub head_said : AskedHead → Shape → BodySize → ConnectionType → ℕ → Head
head_said r shape size kind now =
    let lines = request_lines r shape size kind now in record {
      method = r.method;
      target = r.target;
      minor = r.minor;
      headers = lines;
      body = kind_of_shape shape;
      connection = connection_of r.minor lines;
      expects = expects_continue lines;
    }

-- how a body of this size goes out: a request's body has to end, so a stream goes in chunks
abbrev pub asked_shape : BodySize → Shape
asked_shape size_none = shape_none
asked_shape (size_of n) = if n == 0 then shape_none else shape_length n
asked_shape size_stream = shape_chunked

-- a stated length is below 2 ^ 64
abbrev pub fits : BodySize → Type 0
fits (size_of n) = n < 2 ^ 64
fits _ = ⊤

-- A request of HTTP/1.1 other than CONNECT, no line of which asks for another protocol or frames its body, and whose
-- method, target and lines are read as they are.
pub record IsPlainRequest (r : AskedHead) (shape : Shape) (size : BodySize) (kind : ConnectionType) (now : ℕ) : Type 0 where
  pub version : r.minor ≡ 1
  pub method : IsToken r.method
  pub token : IsMethod r.method
  pub no_connect : bytes_eq r.method (codes "CONNECT") ≡ false
  pub target : IsTarget r.target
  pub visible : (0 < length r.target) × AllPass is_uri_byte r.target
  pub utf8 : IsUtf8 r.target
  pub no_upgrade : values_of (codes "upgrade") (filter (is_sent (as_answer r) shape) (by_name r.headers)) ≡ []
  pub lines : AllByRecursion (IsCleanLine r.in_camel_case) (request_lines r shape size kind now)

-- ---- a whole request

-- the pieces as one text
abbrev pub joined : List (List ℕ) → List ℕ
joined pieces = flat_map (λ piece. piece) pieces

-- a request as a client sends it: its head, the size of its body, what it asks of the connection, the moment, in
-- milliseconds since 1970, and the pieces of its body
pub record RequestGiven : Type 0 where
  pub head : AskedHead
  pub size : BodySize
  pub kind : ConnectionType
  pub moment : ℕ
  pub pieces : List (List ℕ)

-- the text of its head, and the lines of it
abbrev pub given_request_text : RequestGiven → List ℕ
given_request_text g = request_text g.head (asked_shape g.size) g.size g.kind g.moment

abbrev pub given_request_lines : RequestGiven → List Header
given_request_lines g = request_lines g.head (asked_shape g.size) g.size g.kind g.moment

-- the text of a body of this shape, and its end
abbrev pub body_sent : Shape → List (List ℕ) → List ℕ
body_sent (shape_length n) pieces = take n (joined pieces)
body_sent shape_chunked pieces = flat_map chunk_text pieces ++ last_chunk
body_sent _ pieces = []

-- The request is plain, a stated length is that of its pieces, each piece has fewer than 2 ^ 64 bytes, and its head has
-- at most 96 lines and no more bytes than a server holds.
pub record IsPlainGiven (hold_size : ℕ) (g : RequestGiven) : Type 0 where
  pub head : IsPlainRequest g.head (asked_shape g.size) g.size g.kind g.moment
  pub fits : fits g.size
  pub came : (n : ℕ) → g.size ≡ size_of n → length (joined g.pieces) ≡ n
  pub short : AllByRecursion (λ (piece : List ℕ). length piece < 2 ^ 64) g.pieces
  pub few : length (given_request_lines g) ≤ MAX_HEADER_LINES
  pub held : length (given_request_text g) ≤ hold_size
