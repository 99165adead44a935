-- What the steps of the reading of an answer's head say of the parts that they read.
use Rattle.std.specs.Prelude.{◌≡◌, ◌⊎◌, ◌<◌, ◌≤◌, ℕ, Bool, List, map, All, Some, None}
use Rattle.http_types.specs.declared.error.ParseError.{ParseError}
use Rattle.http_types.specs.declared.error.ParseError.TheVariants.{Status, Header as HeaderError}
use Rattle.httparse.specs.Spans.{span_bytes, header_bytes}
use Rattle.httparse.specs.declared.spans.HeaderSpan.{HeaderSpan}
use Rattle.httparse.specs.declared.spans.ResponseSpans.{ResponseSpans}
use Rattle.model_h1.specs.Request.{Header, BodyKind}
use Rattle.model_client.specs.AnswerReading.{Answer}
use Rattle.model_client.specs.AnswerTable.{answer_kind, answer_connection}
use Rattle.http_framing.specs.HeaderLines.{Line, line_header, HasName}

-- the parts of an answer's head as its text has them
pub record AnswerParts : Type 0 where
  pub minor : ℕ
  pub status : ℕ
  pub reason : List ℕ
  pub lines : List Line

-- the parts that the spans cover
abbrev pub answer_parts_at : List ℕ → ResponseSpans → List HeaderSpan → AnswerParts
answer_parts_at piece spans fields = record {
  minor = spans.version;
  status = spans.code;
  reason = span_bytes piece spans.reason;
  lines = map (header_bytes piece) fields;
}

-- the lines as headers
abbrev pub answer_headers : AnswerParts → List Header
answer_headers parts = map line_header parts.lines

-- the answer with these parts and this body, taken by the second reading or the first
abbrev pub answer_from : Bool → AnswerParts → BodyKind → Answer
answer_from is_lax parts body = record {
  minor = parts.minor;
  status = parts.status;
  reason = parts.reason;
  headers = answer_headers parts;
  body = body;
  connection = answer_connection parts.minor parts.status (answer_headers parts) body;
  is_lax = is_lax;
}

-- the parts are those of an answer with this body
pub record AreAnswerParts (parts : AnswerParts) (body : BodyKind) : Type 0 where
  pub status_is : 100 ≤ parts.status
  pub names_are : All HasName parts.lines
  pub body_is : answer_kind parts.minor parts.status (answer_headers parts) ≡ Some body

-- which part is refused, by the name of the error: the status before the lines
abbrev pub RefusesAnswerParts : ParseError → AnswerParts → Type 0
RefusesAnswerParts Status parts = parts.status < 100
RefusesAnswerParts HeaderError parts =
    (100 ≤ parts.status) × (¬ (All HasName parts.lines) ⊎ (answer_kind parts.minor parts.status (answer_headers parts) ≡ None))
RefusesAnswerParts _ parts = ⊥
