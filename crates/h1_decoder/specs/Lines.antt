-- What is known of the header lines of a head, and why they are refused.
use Rattle.std.specs.Prelude.{◌≡◌, ◌⊎◌, ℕ, List, map, All, None}
use Rattle.http_header.specs.FieldValue.{IsFieldValue}
use Rattle.httparse.specs.Grammar.{trim_ows}
use Rattle.http_framing.specs.HeaderLines.{Line, HasName, line_header}
use Rattle.model_h1.specs.LengthTable.{body_kind}

-- a line's value as the grammar gives it: one that a header field may have, with no white space around it
pub record HasValue (line : Line) : Type 0 where
  pub valid : IsFieldValue line.1
  pub trimmed : trim_ows line.1 ≡ line.1

-- the lines have a name that no header has, or frame no body for a request of this version and method
abbrev pub RefusesLinesOf : ℕ → List ℕ → List Line → Type 0
RefusesLinesOf minor method lines = ¬ (All HasName lines) ⊎ (body_kind minor method (map line_header lines) ≡ None)
