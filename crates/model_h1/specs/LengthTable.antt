-- How a request's header lines frame its body (RFC 7230, section 3.3.3) and what they ask of the
-- connection (section 6.1; RFC 7231, section 5.1.1). Each is a function of the whole list of lines.
use Rattle.std.specs.Prelude.{ℕ, ◌^◌, Bool, true, false, not, ◌&&◌, ◌||◌, List, [], ◌∷◌, map, filter, length, codes, bytes_eq, nat_eq, nat_lt, ◌==◌, if◌then◌else◌, Option, Some, None, is_none, option_and_then, unwrap_or}
use Rattle.std.specs.List.{list_all, list_any, last_or, starts_with}
use Rattle.std.specs.Char.{is_ascii_digit}
use Rattle.std.specs.Str.Parse.{digits_value}
use Rattle.httparse.specs.Grammar.{trim_ows}
use Rattle.http_header.specs.Token.{lowercase}
use Rattle.model_h1.specs.Request.{Header, ConnectionType, close, keep_alive, upgrade, BodyKind, no_body, fixed_body, chunked_body, raw_body}

-- the values of the lines with this name, in line order
abbrev pub values_of : List ℕ → List Header → List (List ℕ)
values_of name headers = map (λ h. h.value) (filter (λ h. bytes_eq h.name name) headers)

-- the value is this word, whatever its case and the white space around it
abbrev pub says : List ℕ → List ℕ → Bool
says value word = bytes_eq (lowercase (trim_ows value)) word

-- the number that a Content-Length spells: digits alone, at least one, below 2 ^ 64
abbrev pub length_value : List ℕ → Option ℕ
length_value text =
    if nat_lt 0 (length text) && list_all is_ascii_digit text && nat_lt (digits_value 10 text) (2 ^ 64)
    then Some (digits_value 10 text) else None

-- the length that the first Content-Length line states: nothing where there is none, or where it spells no number
abbrev pub stated_length : List (List ℕ) → Option ℕ
stated_length [] = None
stated_length (value ∷ more) = length_value (trim_ows value)

-- two Content-Length lines, or one that spells no number
abbrev pub is_length_refused : List (List ℕ) → Bool
is_length_refused [] = false
is_length_refused (value ∷ []) = is_none (length_value (trim_ows value))
is_length_refused (value ∷ second ∷ more) = true

-- HTTP/1.1 takes one Transfer-Encoding line, and it says chunked
abbrev pub is_coding_refused : ℕ → List (List ℕ) → Bool
is_coding_refused minor [] = false
is_coding_refused minor (value ∷ []) = not ((minor == 1) && says value (codes "chunked"))
is_coding_refused minor (value ∷ second ∷ more) = true

-- there is such a line
abbrev pub is_there : List (List ℕ) → Bool
is_there [] = false
is_there (value ∷ more) = true

-- some Upgrade line asks for a WebSocket (RFC 6455, section 4.1)
abbrev pub asks_websocket : List Header → Bool
asks_websocket headers = list_any (λ value. says value (codes "websocket")) (values_of (codes "upgrade") headers)

-- an HTTP/1.0 client can't say where the body of a POST ends but by its length, unless it asks for a WebSocket
abbrev pub lacks_length : ℕ → List ℕ → List Header → Bool
lacks_length minor method headers =
    (minor == 0) && bytes_eq method (codes "POST") && not (is_there (values_of (codes "content-length") headers))
    && not (asks_websocket headers)

-- the lines frame no body: a length or a coding that is refused, both together, or none where one is needed
abbrev pub is_framing_refused : ℕ → List ℕ → List Header → Bool
is_framing_refused minor method headers =
    let lengths = values_of (codes "content-length") headers in
    let codings = values_of (codes "transfer-encoding") headers in
    is_length_refused lengths || is_coding_refused minor codings || (is_there lengths && is_there codings)
    || lacks_length minor method headers

-- the body of a request without chunks that asks for no WebSocket
abbrev pub plain_body : List ℕ → ℕ → BodyKind
plain_body method length =
    if nat_lt 0 length then fixed_body length else (if bytes_eq method (codes "CONNECT") then raw_body else no_body)

-- where the body of a request ends whose lines aren't refused: chunks before a WebSocket before a length
abbrev pub framed_body : List ℕ → List Header → BodyKind
framed_body method headers =
    if is_there (values_of (codes "transfer-encoding") headers) then chunked_body
    else (if asks_websocket headers then raw_body
    else plain_body method (unwrap_or (stated_length (values_of (codes "content-length") headers)) 0))

-- the body of a request, or none where its lines are refused
abbrev pub body_kind : ℕ → List ℕ → List Header → Option BodyKind
body_kind minor method headers = if is_framing_refused minor method headers then None else Some (framed_body method headers)

-- the type that a Connection line names, if it is one of three words and no more
abbrev pub named_type : List ℕ → Option ConnectionType
named_type value =
    if says value (codes "close") then Some close
    else (if says value (codes "keep-alive") then Some keep_alive
    else (if says value (codes "upgrade") then Some upgrade else None))

-- without a word HTTP/1.1 keeps the connection, and HTTP/1.0 closes it
abbrev pub default_type : ℕ → ConnectionType
default_type minor = if minor == 0 then close else keep_alive

-- the type that the last Connection line names, if it names one
abbrev pub asked_type : List Header → Option ConnectionType
asked_type headers = option_and_then named_type (last_or None (values_of (codes "connection") headers))

-- the last Connection line decides
abbrev pub connection_of : ℕ → List Header → ConnectionType
connection_of minor headers = unwrap_or (asked_type headers) (default_type minor)

-- some Expect line begins as 100-continue does
abbrev pub expects_continue : List Header → Bool
expects_continue headers = list_any (λ value. starts_with nat_eq value (codes "100-")) (values_of (codes "expect") headers)
