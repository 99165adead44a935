-- The lines of a head as they are written (RFC 7230, section 3.2), and that a text is read back as such a head.
use Rattle.std.specs.Prelude.{◌≡◌, ℕ, Bool, List, [], ◌∷◌, ◌++◌, map, filter, codes, decimal, Option, Some, None, ⊤, unwrap_or, ◌==◌, ◌/◌, if◌then◌else◌}
use Rattle.std.specs.List.{AllByRecursion}
use Rattle.http.specs.StatusCode as status
use Rattle.http_header.specs.Token.{lowercase}
use Rattle.http_header.specs.FieldName.{IsFieldName}
use Rattle.httparse.specs.Grammar.{ResponseHead, ReadsResponse, status_code, reason_phrase, IsToken, AllPass, is_value_byte, trim_ows}
use Rattle.model_h1.specs.Request.{Header, ConnectionType, close, keep_alive, upgrade}
use Rattle.model_h1.specs.RequestHead.{header_of, IsHeaderField}
use Rattle.model_h1.specs.Answer.{AnswerHead, BodySize, size_none, size_of, size_stream, Shape, shape_chunked, is_bodiless, has_header}
use Rattle.model_h1.specs.AnswerText.{name_text, by_name, is_sent, date_of}

-- ---- which lines there are

-- a header of this name and value
abbrev pub line_of : List ℕ → List ℕ → Header
line_of name value = record { name = name; value = value }

-- the line that says chunked, where the body comes in chunks
abbrev pub stream_lines : Shape → List Header
stream_lines shape_chunked = line_of (codes "transfer-encoding") (codes "chunked") ∷ []
stream_lines _ = []

-- the line that states a length, or says chunked
abbrev pub size_lines : Shape → BodySize → List Header
size_lines shape size_none = []
size_lines shape (size_of n) = line_of (codes "content-length") (decimal n) ∷ []
size_lines shape size_stream = stream_lines shape

-- the line that frames the body, if there is one: none for a status that has no body
abbrev pub framing_lines : AnswerHead → Shape → BodySize → List Header
framing_lines answer shape size = if is_bodiless answer.status then [] else size_lines shape size

-- the line that says what becomes of the connection, if there is one
abbrev pub connection_lines : ℕ → Bool → ConnectionType → List Header
connection_lines minor camel upgrade = line_of (codes "connection") (if camel then codes "Upgrade" else codes "upgrade") ∷ []
connection_lines minor camel keep_alive = if minor == 0 then line_of (codes "connection") (codes "keep-alive") ∷ [] else []
connection_lines minor camel close = if minor == 0 then [] else line_of (codes "connection") (codes "close") ∷ []

-- the line that gives a moment, in milliseconds since 1970, unless the head has a date of its own
abbrev pub date_lines : Bool → ℕ → List Header
date_lines has_date now = if has_date then [] else line_of (codes "date") (date_of (now / 1000)) ∷ []

-- all lines of a head, in the order in which they are written; names in lower case
abbrev pub written_lines : ℕ → AnswerHead → Shape → BodySize → ConnectionType → ℕ → List Header
written_lines minor answer shape size kind now =
    framing_lines answer shape size ++ (connection_lines minor answer.in_camel_case kind
    ++ (filter (is_sent answer shape) (by_name answer.headers) ++ date_lines (has_header (codes "date") answer.headers) now))

-- the reason that is written: the head's own, or that of its status
abbrev pub written_reason : AnswerHead → List ℕ
written_reason answer = unwrap_or answer.reason (unwrap_or (status.reason_phrase answer.status) (codes "<unknown status code>"))

-- ---- what is read back

-- The line is read as it was written: its name is a token that lowers to the name, and its value has no control byte
-- but tabs, and no blank at its ends.
pub record IsCleanLine (camel : Bool) (h : Header) : Type 0 where
  pub name : IsToken (name_text camel h.name)
  pub field_name : IsFieldName (name_text camel h.name)
  pub lowers : lowercase (name_text camel h.name) ≡ h.name
  pub value : AllPass is_value_byte h.value
  pub trimmed : trim_ows (32 ∷ h.value) ≡ h.value

-- A header of the types that heads are made of: its name is a token in lower case of at most 65535 bytes, and its value
-- has no control byte but tabs. And no blank stands at the ends of its value, since a reader would leave it out.
pub record IsCleanHeader (h : Header) : Type 0 where
  pub name : IsFieldName h.name
  pub lower : lowercase h.name ≡ h.name
  pub value : AllPass is_value_byte h.value
  pub trimmed : trim_ows h.value ≡ h.value

-- a reason of the head's own, if it has one, has no control byte but tabs
abbrev pub IsCleanReason : Option (List ℕ) → Type 0
IsCleanReason None = ⊤
IsCleanReason (Some reason) = AllPass is_value_byte reason

-- The whole text is a head of the grammar, without empty lines in front, of this version, status, reason and these lines.
pub record IsReadBack (text : List ℕ) (minor status : ℕ) (reason : List ℕ) (lines : List Header) : Type 0 where
  pub head : ResponseHead
  pub reads : ReadsResponse text head []
  pub blank : head.blank ≡ []
  pub minor_is : head.minor ≡ minor
  pub status_is : status_code head ≡ status
  pub reason_is : reason_phrase head.reason ≡ reason
  pub lines_are : map header_of head.fields ≡ lines
  pub fields : AllByRecursion IsHeaderField head.fields
