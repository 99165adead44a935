-- What an error of the reading of an answer's head says.
use Rattle.std.specs.Prelude.{◌≡◌, ◌⊎◌, ◌<◌, ◌≤◌, ℕ, List, [], None, map}
use Rattle.std.specs.List.{AllByRecursion}
use Rattle.http_types.specs.declared.error.ParseError.{ParseError}
use Rattle.http_types.specs.declared.error.ParseError.TheVariants.{Version, Status, Header, TooLarge}
use Rattle.httparse.specs.Grammar.{ResponseHead, ReadsResponse, status_code}
use Rattle.httparse.specs.Spans.{IsResponseAt}
use Rattle.httparse.specs.declared.spans.HeaderSpan.{HeaderSpan}
use Rattle.httparse.specs.declared.spans.ResponseSpans.{ResponseSpans}
use Rattle.model_h1.specs.HeadPiece.{header_lines}
use Rattle.model_h1.specs.Limits.{MAX_HEADER_LINES}
use Rattle.model_h1.specs.RequestHead.{IsHeaderField, header_of}
use Rattle.model_client.specs.AnswerReading.{HasNoText}
use Rattle.model_client.specs.AnswerTable.{answer_kind}
use Rattle.model_client.specs.LaxText.{unpadded}

-- the spans are those of a head that is the whole text
pub record IsWholeAnswerAt (text : List ℕ) (fields : List HeaderSpan) (spans : ResponseSpans) : Type 0 where
  pub head : ResponseHead
  pub at : IsResponseAt text fields spans head
  pub whole : ReadsResponse text head []

-- the piece is this text of the grammar, or, where it is none, its laxer copy is
abbrev pub IsEitherText : List ℕ → ResponseHead → Type 0
IsEitherText piece text = ReadsResponse piece text [] ⊎ (HasNoText piece × ReadsResponse (unpadded piece) text [])

-- the same, of no more lines than a head may have
pub record IsAnswerText (piece : List ℕ) (text : ResponseHead) : Type 0 where
  pub few : header_lines piece ≤ MAX_HEADER_LINES
  pub reads : IsEitherText piece text

-- it has no more lines than a head may have, and neither it nor its laxer copy is a text of the grammar
abbrev pub IsNoAnswerText : List ℕ → Type 0
IsNoAnswerText piece = (header_lines piece ≤ MAX_HEADER_LINES) × HasNoText piece × HasNoText (unpadded piece)

-- a name that no header has, or lines that frame no body
abbrev pub RefusesAnswerLines : ResponseHead → Type 0
RefusesAnswerLines text =
    ¬ (AllByRecursion IsHeaderField text.fields)
    ⊎ (answer_kind text.minor (status_code text) (map header_of text.fields) ≡ None)

-- Why a piece is no head of an answer, by the name of the error, in the order in which it is judged: the number of its
-- lines, the grammar, the status, the lines.
abbrev pub RefusesAnswer : ParseError → List ℕ → Type 0
RefusesAnswer TooLarge piece = MAX_HEADER_LINES < header_lines piece
RefusesAnswer Version piece = IsNoAnswerText piece
RefusesAnswer Status piece = IsNoAnswerText piece ⊎ ((text : ResponseHead) × IsAnswerText piece text × (status_code text < 100))
RefusesAnswer Header piece =
    IsNoAnswerText piece
    ⊎ ((text : ResponseHead) × IsAnswerText piece text × (100 ≤ status_code text) × RefusesAnswerLines text)
RefusesAnswer _ piece = ⊥
