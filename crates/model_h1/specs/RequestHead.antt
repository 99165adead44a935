-- What a whole head is read as (RFC 7230, sections 3 and 5.3): the grammar is httparse's, and the method,
-- the target, the names and the values are those that http, http_uri and http_header take.
use Rattle.std.specs.Prelude.{◌≡◌, ℕ, ◌<◌, ◌≤◌, ◌⊎◌, List, [], length, map, Option, Some}
use Rattle.std.specs.List.{AllByRecursion}
use Rattle.httparse.specs.Grammar.{RequestHead, ReadsRequest, Field, field_value}
use Rattle.http_header.specs.Token.{IsToken, lowercase}
use Rattle.http_header.specs.FieldName.{IsFieldName}
use Rattle.http_header.specs.FieldValue.{IsFieldValue}
use Rattle.http_uri.specs.Grammar.{IsUriText}
use Rattle.model_h1.specs.HeadPiece.{header_lines}
use Rattle.model_h1.specs.Limits.{MAX_HEADER_LINES}
use Rattle.model_h1.specs.LengthTable.{body_kind, connection_of, expects_continue}
use Rattle.model_h1.specs.Request.{Header, Head, malformed, too_large, Reading, head_is, faulty}

-- a field line as a header
abbrev pub header_of : Field → Header
header_of f = record { name = lowercase f.name; value = field_value f }

-- a header field may have this name and this value
pub record IsHeaderField (f : Field) : Type 0 where
  pub name : IsFieldName f.name
  pub value : IsFieldValue (field_value f)

-- the text has one of the forms of a target
abbrev pub IsTarget : List ℕ → Type 0
IsTarget text = (scheme authority : Option (List ℕ)) × (rest : List ℕ) × IsUriText text scheme authority rest

-- The piece is the text of this head. That the method is a token is said by the grammar too.
pub record IsHeadOf (piece : List ℕ) (h : Head) : Type 0 where
  pub text : RequestHead
  pub reads : ReadsRequest piece text []
  pub method_is : IsToken text.method × (h.method ≡ text.method)
  pub target_is : IsTarget text.target × (h.target ≡ text.target)
  pub minor_is : h.minor ≡ text.minor
  pub fields : AllByRecursion IsHeaderField text.fields
  pub headers_are : h.headers ≡ map header_of text.fields
  pub body_is : body_kind h.minor h.method h.headers ≡ Some h.body
  pub connection_is : h.connection ≡ connection_of h.minor h.headers
  pub expects_is : h.expects ≡ expects_continue h.headers

-- Too many lines are judged before all else; what then is no head is malformed.
abbrev pub IsReading : List ℕ → Reading → Type 0
IsReading piece (faulty too_large) = MAX_HEADER_LINES < header_lines piece
IsReading piece (faulty malformed) = (header_lines piece ≤ MAX_HEADER_LINES) × ((h : Head) → ¬ (IsHeadOf piece h))
IsReading piece (head_is h) = (header_lines piece ≤ MAX_HEADER_LINES) × IsHeadOf piece h

-- a piece longer than a connection may hold is too large, whatever it says
abbrev pub IsReadingWithin : ℕ → List ℕ → Reading → Type 0
IsReadingWithin hold_size piece reading =
    ((length piece ≤ hold_size) × IsReading piece reading) ⊎ ((hold_size < length piece) × (reading ≡ faulty too_large))
