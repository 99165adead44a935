-- What the steps of the reading of a head say of the parts that they read.
use Rattle.std.specs.Prelude.{◌≡◌, ℕ, List, map, All, Some}
use Rattle.http_header.specs.Token.{IsToken}
use Rattle.http_types.specs.declared.error.ParseError.{ParseError}
use Rattle.http_types.specs.declared.error.ParseError.TheVariants.{Method, Uri, Header as HeaderError}
use Rattle.httparse.specs.Spans.{span_bytes, header_bytes}
use Rattle.httparse.specs.declared.spans.HeaderSpan.{HeaderSpan}
use Rattle.httparse.specs.declared.spans.RequestSpans.{RequestSpans}
use Rattle.model_h1.specs.LengthTable.{body_kind, connection_of, expects_continue}
use Rattle.model_h1.specs.Request.{Header, BodyKind, Head}
use Rattle.model_h1.specs.RequestHead.{IsTarget}
use Rattle.http_framing.specs.HeaderLines.{Line, line_header, HasName}
use Rattle.h1_decoder.specs.Lines.{RefusesLinesOf}

-- the parts of a head as its text has them
pub record Parts : Type 0 where
  pub method : List ℕ
  pub target : List ℕ
  pub minor : ℕ
  pub lines : List Line

-- the parts that the spans cover
abbrev pub parts_at : List ℕ → RequestSpans → List HeaderSpan → Parts
parts_at piece spans fields = record {
  method = span_bytes piece spans.method;
  target = span_bytes piece spans.path;
  minor = spans.version;
  lines = map (header_bytes piece) fields;
}

-- the lines as headers
abbrev pub headers_of : Parts → List Header
headers_of parts = map line_header parts.lines

-- the head with these parts and this body
abbrev pub head_of : Parts → BodyKind → Head
head_of parts body = record {
  method = parts.method;
  target = parts.target;
  minor = parts.minor;
  headers = headers_of parts;
  body = body;
  connection = connection_of parts.minor (headers_of parts);
  expects = expects_continue (headers_of parts);
}

-- the parts are those of a head with this body
pub record AreParts (parts : Parts) (body : BodyKind) : Type 0 where
  pub method_is : IsToken parts.method
  pub target_is : IsTarget parts.target
  pub names_are : All HasName parts.lines
  pub body_is : body_kind parts.minor parts.method (headers_of parts) ≡ Some body

-- which part is refused, by the name of the error: the method before the target before the lines
abbrev pub RefusesParts : ParseError → Parts → Type 0
RefusesParts Method parts = ¬ (IsToken parts.method)
RefusesParts Uri parts = IsToken parts.method × ¬ (IsTarget parts.target)
RefusesParts HeaderError parts =
    IsToken parts.method × IsTarget parts.target × RefusesLinesOf parts.minor parts.method parts.lines
RefusesParts _ parts = ⊥
