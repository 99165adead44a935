-- Trailer lines, and the spans that cover them.
use Rattle.std.proofs.Common.{◌≡◌, ℕ, ◌+◌, ◌*◌, ◌/◌, ◌<◌, ◌≤◌, Bool, List, [], ◌∷◌, ◌++◌, length, take, drop, map, All, refl, sym, ap, ◌∙◌, subst, arith, append_assoc, length-append, append-nil}
use Rattle.std.specs.Prelude.{IsTrue, flat_map}
use Rattle.std.specs.List.{list_all, AllByRecursion}
use Rattle.std.proofs.lemmas.Bool.{and_parts}
use Rattle.std.proofs.lemmas.List.{length-map}
use Rattle.std.proofs.lemmas.List.Elements.{All-nil, All-cons, All-head, All-tail, All-weaker}
use Rattle.http_header.specs.Token as token
use Rattle.httparse.specs.Ascii.{colon, crlf_bytes}
use Rattle.httparse.specs.Grammar.{is_value_byte, is_token_byte, crlf, Field, IsField, AllPass, print_field, ReadsSection, LineEnd, print_end}
use Rattle.httparse.specs.Spans.{name_and_value, header_bytes, IsHeaderWithin, IsSectionWithin, IsSectionAt}
use Rattle.httparse.specs.declared.spans.HeaderSpan.{HeaderSpan}
use Rattle.httparse.proofs.TrimLemmas.{AllPass-trim_ows}
use Rattle.model_h1.specs.ChunkedText.{Trailer, IsTrailer, trailer_text, section_text}
use Rattle.model_h1.specs.Request.{Header}
use Rattle.model_h1.specs.Parse.{trailer_header}
use Rattle.http_framing.specs.HeaderLines.{IsLine, line_header}
use Rattle.h1_payload.specs.HeaderMaps.{IsLinesAt}

-- ---- trailers as fields

-- a trailer line as a field line
abbrev pub field_of : Trailer → Field
field_of t = record { name = t.name; raw = t.value; end = crlf }

-- each byte passes the test
all_pass : (test : ℕ → Bool) (bytes : List ℕ) → IsTrue (list_all test bytes) → AllPass test bytes
all_pass test [] ok = All-nil (λ b. IsTrue (test b))
all_pass test (b ∷ bytes) ok =
    let parts = and_parts _ _ ok in
    All-cons (λ b. IsTrue (test b)) b bytes parts.0 (all_pass test bytes parts.1)

-- a trailer is a field
trailer_field : (t : Trailer) → IsTrailer t → IsField (field_of t)
trailer_field t ok = record { name = (ok.0, all_pass is_token_byte t.name ok.1); raw = all_pass is_value_byte t.value ok.2 }

trailers_fields : (lines : List Trailer) → AllByRecursion IsTrailer lines → All IsField (map field_of lines)
trailers_fields [] ok = All-nil IsField
trailers_fields (t ∷ lines) ok = All-cons IsField (field_of t) (map field_of lines) (trailer_field t ok.0) (trailers_fields lines ok.1)

-- with the same text
field_text : (t : Trailer) → print_field (field_of t) ≡ trailer_text t
field_text t = append_assoc t.name (colon ∷ t.value) crlf_bytes

fields_text : (lines : List Trailer) → flat_map print_field (map field_of lines) ≡ section_text lines
fields_text [] = refl
fields_text (t ∷ lines) = ap (λ l. l ++ flat_map print_field (map field_of lines)) (field_text t) ∙ ap (λ l. trailer_text t ++ l) (fields_text lines)

-- the text of trailer lines and the empty line is a section of fields
pub reads_lines : (lines : List Trailer) (text : List ℕ) → AllByRecursion IsTrailer lines → text ≡ section_text lines ++ crlf_bytes
    → ReadsSection text (map field_of lines) crlf []
reads_lines lines text ok is = (
  trailers_fields lines ok,
  is ∙ ap (λ l. l ++ crlf_bytes) (sym (fields_text lines)) ∙ sym (append-nil (flat_map print_field (map field_of lines) ++ crlf_bytes)),
)

-- the headers of the fields are those of the trailers
pub headers_of_lines : (lines : List Trailer) → map line_header (map name_and_value (map field_of lines)) ≡ map trailer_header lines
headers_of_lines [] = refl
headers_of_lines (t ∷ lines) = ap (λ (l : List Header). trailer_header t ∷ l) (headers_of_lines lines)

-- a line has four bytes at least
few_lines : (lines : List Trailer) → AllByRecursion IsTrailer lines → 4 * length lines ≤ length (section_text lines)
few_lines [] ok = omega arith
few_lines (t ∷ lines) ok =
    let some : 0 < length t.name = ok.0.0 in
    let more = few_lines lines ok.1 in
    let len : length (trailer_text t) ≡ length t.name + (length t.value + 3) = simp length-append (omega arith) in
    omega (arith, length-append (trailer_text t) (section_text lines))

pub lines_fit : (lines : List Trailer) (text : List ℕ) → AllByRecursion IsTrailer lines → text ≡ section_text lines ++ crlf_bytes
    → length (map field_of lines) ≤ length text / 4
lines_fit lines text ok is =
    let few = few_lines lines ok in
    let len : length text ≡ length (section_text lines) + 2 = ap length is ∙ length-append (section_text lines) crlf_bytes in
    let count = length-map lines field_of in
    omega arith

-- ---- fields as lines

-- both grammars have the same tokens
same_token : (b : ℕ) → is_token_byte b ≡ token.is_token_byte b
unfolding is_token_byte token.is_token_byte
same_token b = refl

-- a field whose name isn't too long is a line of a header
field_line : (f : Field) → IsField f → length f.name ≤ 65535 → IsLine (name_and_value f)
field_line f ok short = (
  ((ok.name.0, All-weaker (λ b. IsTrue (is_token_byte b)) (λ b. IsTrue (token.is_token_byte b)) (λ b pass. sym (same_token b) ∙ pass) f.name ok.name.1), short),
  AllPass-trim_ows is_value_byte f.raw ok.raw,
)

fields_lines : (fields : List Field) → All IsField fields → length (flat_map print_field fields) ≤ 65535 → All IsLine (map name_and_value fields)
fields_lines [] ok short = All-nil IsLine
fields_lines (f ∷ fields) ok short =
    let len = length-append (print_field f) (flat_map print_field fields) in
    let named : length f.name ≤ length (print_field f) = simp length-append (omega arith) in
    All-cons IsLine (name_and_value f) (map name_and_value fields) (field_line f (All-head IsField f fields ok) (omega arith))
    (fields_lines fields (All-tail IsField f fields ok) (omega arith))

-- what the spans of a short section cover are lines
pub spans_lines : (text : List ℕ) (spans : List HeaderSpan) (len count : ℕ) (fields : List Field) (last : LineEnd)
    → IsSectionAt text 0 spans len count fields last → length text ≤ 8194 → All IsLine (map (header_bytes text) (take count spans))
spans_lines text spans len count fields last at short =
    let body = flat_map print_field fields in
    let end = print_end last in
    let rest = drop len text in
    let whole : length text ≡ length body + length end + length rest =
    ap length at.reads.1 ∙ length-append (body ++ end) rest ∙ ap (λ n. n + length rest) (length-append body end) in
    subst (All IsLine) (sym at.fields_are) (fields_lines fields at.reads.0 (omega arith))

-- spans within a part lie within the whole
pub spans_within : (n m : ℕ) (spans : List HeaderSpan) → n ≤ m → All (IsHeaderWithin n) spans → All (IsHeaderWithin m) spans
spans_within n m spans less ok = All-weaker (IsHeaderWithin n) (IsHeaderWithin m) (λ s w. ((w.0.0, omega (arith, w.0.1)), (w.1.0, omega (arith, w.1.1)))) spans ok

-- ---- what was parsed

pub lines_at : (text : List ℕ) (spans : List HeaderSpan) (len count : ℕ) (fields : List Field) (last : LineEnd) → IsSectionWithin text spans len count
    → IsSectionAt text 0 spans len count fields last → length text ≤ 8194 → IsLinesAt text spans count
lines_at text spans len count fields last inside at short = record {
  fits = inside.count_fits;
  within = spans_within len (length text) (take count spans) inside.len_fits inside.headers_fit;
  lines = spans_lines text spans len count fields last at short;
}
