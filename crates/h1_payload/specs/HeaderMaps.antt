-- The lines of a trailer section: in a map, and covered by spans.
use Rattle.std.specs.Prelude.{◌≡◌, ℕ, ◌≤◌, List, ◌++◌, length, map, take, All, Option, Some, None}
use Rattle.std.specs.List.{AllByRecursion}
use Rattle.httparse.specs.Ascii.{crlf_bytes}
use Rattle.httparse.specs.Spans.{IsHeaderWithin, header_bytes}
use Rattle.httparse.specs.declared.spans.HeaderSpan.{HeaderSpan}
use Rattle.http_map.specs.HeaderMap.{Entries}
use Rattle.http_framing.specs.HeaderLines.{IsLine, line_header, header_map}
use Rattle.model_h1.specs.ChunkedText.{Trailer, IsTrailer, section_text}
use Rattle.model_h1.specs.Parse.{trailer_header}

-- the map has the lines of the section of which this is the text, with the empty line behind it
abbrev pub IsMapOf : List ℕ → Entries → Type 0
IsMapOf text entries =
    (lines : List Trailer) → AllByRecursion IsTrailer lines → text ≡ section_text lines ++ crlf_bytes
    → entries ≡ header_map (map trailer_header lines)

-- the first so many spans cover lines in the text
pub record IsLinesAt (text : List ℕ) (spans : List HeaderSpan) (count : ℕ) : Type 0 where
  pub fits : count ≤ length spans
  pub within : All (IsHeaderWithin (length text)) (take count spans)
  pub lines : All IsLine (map (header_bytes text) (take count spans))

-- where the text is that of trailer lines and the empty line, they were found
abbrev pub FindsLines : List ℕ → List HeaderSpan → Option ℕ → Type 0
FindsLines text spans (Some count) =
    (lines : List Trailer) → AllByRecursion IsTrailer lines → text ≡ section_text lines ++ crlf_bytes
    → map line_header (map (header_bytes text) (take count spans)) ≡ map trailer_header lines
FindsLines text spans None =
    (lines : List Trailer) → AllByRecursion IsTrailer lines → ¬ (text ≡ section_text lines ++ crlf_bytes)
