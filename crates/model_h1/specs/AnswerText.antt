-- The bytes of an answer: its head, its body, interim lines and faults (RFC 7230, sections 3.1.2, 3.2
-- and 4.1; RFC 7231, sections 6 and 7.1.1).
use Rattle.std.specs.Prelude.{ℕ, zero, suc, ◌+◌, ◌-◌, ◌/◌, ◌%◌, Bool, true, false, not, ◌&&◌, ◌||◌, List, [], ◌∷◌, ◌++◌, length, take, filter, fold, codes, bytes_eq, nat_lt, nat_le, ◌==◌, if◌then◌else◌, unwrap_or, decimal, flat_map}
use Rattle.std.specs.Fmt.{digits}
use Rattle.http.specs.StatusCode.{code_digits, reason_phrase}
use Rattle.httparse.specs.Ascii.{crlf_bytes}
use Rattle.httpdate.specs.Text.{imf_fixdate}
use Rattle.httpdate.specs.Calendar.{days_in_year, days_in_month, weekday}
use Rattle.model_h1.specs.Request.{Header, ConnectionType, close, keep_alive, upgrade}
use Rattle.model_h1.specs.Answer.{AnswerHead, Asked, BodySize, size_none, size_of, size_stream, Shape, shape_none, shape_length, shape_chunked, shape_raw, is_bodiless, is_raw, has_header}

-- ---- dates

-- a number of years or months from the first on, and the days that are left of it
pub record Counted : Type 0 where
  pub number : ℕ
  pub days : ℕ

-- the year in which a day lies, counted from the first day of a year; at most so many years are passed, and what is
-- left behind them counts to the next
unfoldable pub year_at : ℕ → ℕ → ℕ → Counted
year_at zero year days = record { number = year; days = days }
year_at (suc more) year days =
    if nat_lt days (days_in_year year) then record { number = year; days = days }
    else year_at more (year + 1) (days - days_in_year year)

-- the month in which a day of the year lies
unfoldable pub month_at : ℕ → ℕ → ℕ → ℕ → Counted
month_at zero year month days = record { number = month; days = days }
month_at (suc more) year month days =
    if nat_lt days (days_in_month year month) then record { number = month; days = days }
    else month_at more year (month + 1) (days - days_in_month year month)

-- the date of a second since 1970, up to the year 9999, as in `Sun, 06 Nov 1994 08:49:37 GMT`
unfoldable pub date_of : ℕ → List ℕ
date_of seconds =
    let year = year_at 8029 1970 (seconds / 86400) in
    let month = month_at 11 year.number 1 year.days in
    imf_fixdate (record {
      year = year.number;
      mon = month.number;
      day = month.days + 1;
      hour = seconds % 86400 / 3600;
      min = seconds % 3600 / 60;
      sec = seconds % 60;
      wday = weekday (seconds / 86400);
    })

-- ---- header lines

-- the letter in upper case
abbrev pub raised : ℕ → ℕ
raised b = if nat_le 97 b && nat_le b 122 then b - 32 else b

-- behind the first byte, the letter after each hyphen is raised, and isn't looked at again
unfoldable pub camel_rest : List ℕ → List ℕ
camel_rest [] = []
camel_rest (b ∷ []) = b ∷ []
camel_rest (b ∷ c ∷ bytes) = if b == 45 then b ∷ raised c ∷ camel_rest bytes else b ∷ camel_rest (c ∷ bytes)

-- a name as `Content-Type` is written
abbrev pub camel_case : List ℕ → List ℕ
camel_case [] = []
camel_case (b ∷ bytes) = raised b ∷ camel_rest bytes

-- a name of a line, in camel case where that is wanted
abbrev pub name_text : Bool → List ℕ → List ℕ
name_text camel name = if camel then camel_case name else name

-- name ": " value CR LF
abbrev pub line_text : List ℕ → List ℕ → List ℕ
line_text name value = name ++ (codes ": " ++ (value ++ crlf_bytes))

abbrev pub header_text : Bool → Header → List ℕ
header_text camel h = line_text (name_text camel h.name) h.value

-- the header goes behind those of its name, and a new name goes last
unfoldable pub appended : List (List Header) → Header → List (List Header)
appended [] h = (h ∷ []) ∷ []
appended ([] ∷ groups) h = [] ∷ appended groups h
appended ((g ∷ gs) ∷ groups) h =
    if bytes_eq g.name h.name then (g ∷ gs ++ h ∷ []) ∷ groups else (g ∷ gs) ∷ appended groups h

-- the headers name by name, in the order in which the names came first; names are compared as they are, in lower case
abbrev pub by_name : List Header → List Header
by_name headers = flat_map (λ group. group) (fold appended [] headers)

-- A header never gives a connection line. It gives a framing line in two cases alone: for a 304, and for a raw stream
-- that isn't another protocol's.
abbrev pub is_sent : AnswerHead → Shape → Header → Bool
is_sent answer shape h =
    not (bytes_eq h.name (codes "connection"))
    && (not (bytes_eq h.name (codes "content-length") || bytes_eq h.name (codes "transfer-encoding"))
    || (answer.status == 304) || (is_raw shape && not (answer.status == 101)))

-- ---- the head

-- HTTP/1.minor code reason CR LF
abbrev pub status_line : ℕ → AnswerHead → List ℕ
status_line minor answer =
    codes "HTTP/1." ++ ((48 + minor) ∷ (codes " " ++ (code_digits answer.status ++ (codes " "
    ++ (unwrap_or answer.reason (unwrap_or (reason_phrase answer.status) (codes "<unknown status code>")) ++ crlf_bytes)))))

-- the line that states a length
abbrev pub content_length_line : Bool → ℕ → List ℕ
content_length_line camel n = line_text (name_text camel (codes "content-length")) (decimal n)

abbrev pub stream_line : Bool → Shape → List ℕ
stream_line camel shape_chunked = line_text (name_text camel (codes "transfer-encoding")) (codes "chunked")
stream_line camel _ = []

abbrev pub size_line : Bool → Shape → BodySize → List ℕ
size_line camel shape size_none = []
size_line camel shape (size_of n) = content_length_line camel n
size_line camel shape size_stream = stream_line camel shape

-- the line that frames the body: none for a status that has no body
abbrev pub framing_line : AnswerHead → Shape → BodySize → List ℕ
framing_line answer shape size = if is_bodiless answer.status then [] else size_line answer.in_camel_case shape size

-- the line that says what becomes of the connection, where the version alone doesn't
abbrev pub connection_line : ℕ → Bool → ConnectionType → List ℕ
connection_line minor camel upgrade =
    line_text (name_text camel (codes "connection")) (if camel then codes "Upgrade" else codes "upgrade")
connection_line minor camel keep_alive =
    if minor == 0 then line_text (name_text camel (codes "connection")) (codes "keep-alive") else []
connection_line minor camel close =
    if minor == 0 then [] else line_text (name_text camel (codes "connection")) (codes "close")

-- the line that gives a moment, in milliseconds since 1970, to the second
abbrev pub date_line : Bool → ℕ → List ℕ
date_line camel now = line_text (name_text camel (codes "date")) (date_of (now / 1000))

-- an answer's own date stands in place of the moment's
abbrev pub date_line_unless : Bool → AnswerHead → ℕ → List ℕ
date_line_unless has_date answer now = if has_date then [] else date_line answer.in_camel_case now

-- the head of an answer to a request of HTTP/1.minor
unfoldable pub head_text : ℕ → AnswerHead → Shape → BodySize → ConnectionType → ℕ → List ℕ
head_text minor answer shape size kind now =
    status_line minor answer ++ (framing_line answer shape size ++ (connection_line minor answer.in_camel_case kind
    ++ (flat_map (header_text answer.in_camel_case) (filter (is_sent answer shape) (by_name answer.headers))
    ++ (date_line_unless (has_header (codes "date") answer.headers) answer now ++ crlf_bytes))))

-- ---- the body

-- a chunk: its length in upper-case hexadecimal digits, and its bytes; a chunk of no bytes is none
abbrev pub chunk_text : List ℕ → List ℕ
chunk_text [] = []
chunk_text (b ∷ bytes) = digits 16 true (length (b ∷ bytes)) ++ (crlf_bytes ++ (b ∷ bytes ++ crlf_bytes))

-- the end of a body in chunks
abbrev pub last_chunk : List ℕ
last_chunk = codes "0\r\n\r\n"

-- what of a piece of the body goes out, where so many bytes of the body came before it
abbrev pub piece_text : Shape → ℕ → List ℕ → List ℕ
piece_text shape_none before bytes = []
piece_text (shape_length n) before bytes = take (n - before) bytes
piece_text shape_chunked before bytes = chunk_text bytes
piece_text shape_raw before bytes = bytes

abbrev pub end_text : Shape → List ℕ
end_text shape_chunked = last_chunk
end_text _ = []

-- the same of an answer to this request: HEAD has the head alone
abbrev pub sent_piece : Asked → Shape → ℕ → List ℕ → List ℕ
sent_piece asked shape before bytes = if asked.is_head then [] else piece_text shape before bytes

abbrev pub sent_end : Asked → Shape → List ℕ
sent_end asked shape = if asked.is_head then [] else end_text shape

-- ---- other texts

-- what tells a client to go on (RFC 7231, section 6.2.1)
abbrev pub interim_text : List ℕ
interim_text = codes "HTTP/1.1 100 Continue\r\n\r\n"

-- a fault's answer is empty and closes
abbrev pub fault_text : ℕ → List ℕ → ℕ → List ℕ
fault_text status reason now =
    codes "HTTP/1.1 " ++ (code_digits status ++ (codes " " ++ (reason ++ (crlf_bytes
    ++ (line_text (codes "content-length") (codes "0") ++ (line_text (codes "connection") (codes "close")
    ++ (date_line false now ++ crlf_bytes)))))))

abbrev pub bad_request_text : ℕ → List ℕ
bad_request_text now = fault_text 400 (codes "Bad Request") now

abbrev pub timeout_text : ℕ → List ℕ
timeout_text now = fault_text 408 (codes "Request Timeout") now

abbrev pub too_large_text : ℕ → List ℕ
too_large_text now = fault_text 431 (codes "Request Header Fields Too Large") now
