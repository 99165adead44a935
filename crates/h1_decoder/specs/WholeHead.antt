-- A head that is a whole piece, by the spans of its parts.
use Rattle.std.specs.Prelude.{◌<◌, ◌≤◌, ℕ, List, [], length}
use Rattle.http_types.specs.declared.error.ParseError.{ParseError}
use Rattle.http_types.specs.declared.error.ParseError.TheVariants.{TooLarge, Version, Status, Header}
use Rattle.httparse.specs.Grammar.{RequestHead, ReadsRequest}
use Rattle.httparse.specs.Spans.{IsRequestAt}
use Rattle.httparse.specs.declared.spans.HeaderSpan.{HeaderSpan}
use Rattle.httparse.specs.declared.spans.RequestSpans.{RequestSpans}
use Rattle.model_h1.specs.HeadPiece.{BeginsBlank, header_lines}
use Rattle.model_h1.specs.Limits.{MAX_HEADER_LINES}
use Rattle.h1_decoder.specs.Refusal.{IsTextOf, IsNoText}

-- the spans are those of a head that is the whole piece, of no more lines than a head may have
pub record IsWholeHeadAt (piece : List ℕ) (fields : List HeaderSpan) (spans : RequestSpans) : Type 0 where
  pub text : RequestHead
  pub at : IsRequestAt piece fields spans text
  pub whole : IsTextOf piece text

-- the piece is a head of no more fields than a head may have header lines
abbrev pub HasFewFields : List ℕ → Type 0
HasFewFields piece = (text : RequestHead) × ReadsRequest piece text [] × (length text.fields ≤ MAX_HEADER_LINES)

-- where the bytes begin with no empty line, a head at their front has more fields than a head may have header lines
abbrev pub BeginsWithNoHead : List ℕ → Type 0
BeginsWithNoHead bytes =
    ¬ (BeginsBlank bytes) → (text : RequestHead) (rest : List ℕ) → ReadsRequest bytes text rest → MAX_HEADER_LINES < length text.fields

-- the bytes begin with a whole head of the grammar, of no more fields than a head may have header lines, and with no empty line
pub record BeginsWithHead (bytes : List ℕ) : Type 0 where
  pub begins : ¬ (BeginsBlank bytes)
  pub text : RequestHead
  pub rest : List ℕ
  pub reads : ReadsRequest bytes text rest
  pub few : length text.fields ≤ MAX_HEADER_LINES

-- an error of the grammar, where the piece hasn't too many lines
abbrev pub IsOfGrammar : ParseError → Type 0
IsOfGrammar Version = Unit {0}
IsOfGrammar Status = Unit {0}
IsOfGrammar Header = Unit {0}
IsOfGrammar _ = ⊥

-- the piece has too many lines, or is no text of the grammar
abbrev pub RefusesText : ParseError → List ℕ → Type 0
RefusesText TooLarge piece = MAX_HEADER_LINES < header_lines piece
RefusesText Version piece = IsNoText piece
RefusesText Status piece = IsNoText piece
RefusesText Header piece = IsNoText piece
RefusesText _ piece = ⊥
