-- A body in chunks (RFC 7230, section 4.1): a tree, and its text.
use Rattle.std.specs.Prelude.{◌≡◌, ℕ, ◌^◌, ◌<◌, ◌≤◌, ◌⊎◌, List, [], ◌∷◌, ◌++◌, length, IsTrue, flat_map}
use Rattle.std.specs.List.{list_all, AllByRecursion}
use Rattle.std.specs.Str.Parse.{digits_value, AllDigits}
use Rattle.httparse.specs.Grammar.{is_ows, is_value_byte, is_token_byte}
use Rattle.httparse.specs.Ascii.{colon, semicolon, crlf_bytes}

-- the most trailer lines of a body, and the most bytes that they have together, each with its line end
abbrev pub MAX_TRAILER_LINES : ℕ
MAX_TRAILER_LINES = 64

abbrev pub MAX_TRAILER_BYTES : ℕ
MAX_TRAILER_BYTES = 8192

-- nothing, or a semicolon and bytes of text (section 4.1.1)
abbrev pub IsExtension : List ℕ → Type 0
IsExtension extension =
    (extension ≡ []) ⊎ ((text : List ℕ) × (extension ≡ semicolon ∷ text) × IsTrue (list_all is_value_byte text))

-- The text is a line that says a size: hexadecimal digits, of which none say 0, blanks and tabs, perhaps an
-- extension, and CR LF.
pub record SaysSize (text : List ℕ) (size : ℕ) : Type 0 where
  pub digits : List ℕ
  pub blanks : List ℕ
  pub extension : List ℕ
  pub spelled : text ≡ digits ++ (blanks ++ (extension ++ crlf_bytes))
  pub hexadecimal : AllDigits 16 digits
  pub says : digits_value 16 digits ≡ size
  pub fits : size < 2 ^ 64
  pub blank : IsTrue (list_all is_ows blanks)
  pub well_formed : IsExtension extension

-- a size line, and as many bytes as it says
pub record Segment : Type 0 where
  pub line : List ℕ
  pub bytes : List ℕ

-- the line of a segment says the length of its bytes, of which there are some
abbrev pub IsSegment : Segment → Type 0
IsSegment s = SaysSize s.line (length s.bytes) × (0 < length s.bytes)

abbrev pub segment_text : Segment → List ℕ
segment_text s = s.line ++ (s.bytes ++ crlf_bytes)

-- a trailer line as it is spelled, the value with the white space around it (section 4.1.2)
pub record Trailer : Type 0 where
  pub name : List ℕ
  pub value : List ℕ

-- the name has some bytes, each a token's; the value has no control byte but the tab
abbrev pub IsTrailer : Trailer → Type 0
IsTrailer t = (0 < length t.name) × IsTrue (list_all is_token_byte t.name) × IsTrue (list_all is_value_byte t.value)

abbrev pub trailer_text : Trailer → List ℕ
trailer_text t = t.name ++ (colon ∷ (t.value ++ crlf_bytes))

-- the lines of a trailer section
abbrev pub section_text : List Trailer → List ℕ
section_text trailers = flat_map trailer_text trailers

-- segments, a line of size 0, and trailer lines
pub record ChunkedText : Type 0 where
  pub segments : List Segment
  pub last : List ℕ
  pub trailers : List Trailer

-- the text of the whole body, which an empty line ends
abbrev pub chunked_text : ChunkedText → List ℕ
chunked_text t = flat_map segment_text t.segments ++ (t.last ++ (section_text t.trailers ++ crlf_bytes))

-- each part is well formed, and the trailer section is within its limits
pub record IsChunkedText (t : ChunkedText) : Type 0 where
  pub segments : AllByRecursion IsSegment t.segments
  pub last : SaysSize t.last 0
  pub trailers : AllByRecursion IsTrailer t.trailers
  pub lines : length t.trailers ≤ MAX_TRAILER_LINES
  pub room : length (section_text t.trailers) ≤ MAX_TRAILER_BYTES

-- the bytes of all segments, joined
abbrev pub content : ChunkedText → List ℕ
content t = flat_map (λ s. s.bytes) t.segments
