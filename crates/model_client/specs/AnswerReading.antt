-- What the whole head of an answer is read as (RFC 7230, sections 3.1.2 and 3.2): the grammar is httparse's, and names
-- and values are those that http_header takes.
use Rattle.std.specs.Prelude.{◌≡◌, ℕ, ◌<◌, ◌≤◌, ◌⊎◌, Bool, true, false, List, [], length, map, Option, Some, None}
use Rattle.std.specs.List.{AllByRecursion}
use Rattle.httparse.specs.Grammar.{ResponseHead, ReadsResponse, status_code, reason_phrase}
use Rattle.model_h1.specs.HeadPiece.{header_lines}
use Rattle.model_h1.specs.Limits.{MAX_HEADER_LINES}
use Rattle.model_h1.specs.Request.{Header, ConnectionType, BodyKind, Fault, malformed, too_large}
use Rattle.model_h1.specs.RequestHead.{IsHeaderField, header_of}
use Rattle.model_client.specs.AnswerTable.{answer_kind, answer_connection}
use Rattle.model_client.specs.LaxText.{unpadded}

-- An answer's head: HTTP/1.minor, the status from 100 on, the reason as it stands (empty where there is none), the
-- headers in line order, where the body ends, and what becomes of the connection. It is lax where only the second
-- reading takes it.
pub record Answer : Type 0 where
  pub minor : ℕ
  pub status : ℕ
  pub reason : List ℕ
  pub headers : List Header
  pub body : BodyKind
  pub connection : ConnectionType
  pub is_lax : Bool

-- what a whole head is read as: an answer, or what is wrong with it
pub data AnswerReading : Type 0 where
  answer_is : Answer → AnswerReading
  refused : Fault → AnswerReading

-- the text is that of this head, whichever reading it is given to
pub record IsTextOf (piece : List ℕ) (a : Answer) : Type 0 where
  pub text : ResponseHead
  pub reads : ReadsResponse piece text []
  pub minor_is : a.minor ≡ text.minor
  pub status_is : (100 ≤ status_code text) × (a.status ≡ status_code text)
  pub reason_is : a.reason ≡ reason_phrase text.reason
  pub fields : AllByRecursion IsHeaderField text.fields
  pub headers_are : a.headers ≡ map header_of text.fields
  pub body_is : answer_kind a.minor a.status a.headers ≡ Some a.body
  pub connection_is : a.connection ≡ answer_connection a.minor a.status a.headers a.body

-- the grammar has no head of this text
abbrev pub HasNoText : List ℕ → Type 0
HasNoText piece = (text : ResponseHead) → ¬ (ReadsResponse piece text [])

-- the piece is read as this head: as it stands, or, where the grammar refuses it, without the blanks before colons
abbrev pub IsAnswerOf : List ℕ → Answer → Type 0
IsAnswerOf piece a =
    ((a.is_lax ≡ false) × IsTextOf piece a) ⊎ ((a.is_lax ≡ true) × HasNoText piece × IsTextOf (unpadded piece) a)

-- Too many lines are judged before all else; what then is no head is malformed.
abbrev pub IsAnswerReading : List ℕ → AnswerReading → Type 0
IsAnswerReading piece (refused too_large) = MAX_HEADER_LINES < header_lines piece
IsAnswerReading piece (refused malformed) = (header_lines piece ≤ MAX_HEADER_LINES) × ((a : Answer) → ¬ (IsAnswerOf piece a))
IsAnswerReading piece (answer_is a) = (header_lines piece ≤ MAX_HEADER_LINES) × IsAnswerOf piece a

-- the same where at most so many bytes are held, if there is such a limit: a longer piece is too large, whatever it says
abbrev pub IsAnswerReadingWithin : Option ℕ → List ℕ → AnswerReading → Type 0
IsAnswerReadingWithin None piece reading = IsAnswerReading piece reading
IsAnswerReadingWithin (Some size) piece reading =
    ((length piece ≤ size) × IsAnswerReading piece reading) ⊎ ((size < length piece) × (reading ≡ refused too_large))
