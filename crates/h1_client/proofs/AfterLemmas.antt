-- What becomes of the connection after an answer.
use Rattle.std.proofs.Common.{◌≡◌, ℕ, zero, suc, ◌-◌, Bool, true, false, not, ◌&&◌, ◌||◌, List, [], ◌∷◌, map, length, Option, Some, None, refl, sym, ap, ◌∙◌, inl, inr, codes, arith, if◌then◌else◌}
use Rattle.std.specs.Prelude.{◌==◌, option_map, slice_get, unwrap_or}
use Rattle.std.specs.Option.{option_and_then}
use Rattle.std.specs.List.{last_or}
use Rattle.std.proofs.lemmas.Bool.{ne_eqb}
use Rattle.httparse.specs.Grammar.{Field, trim_ows}
use Rattle.http_header.specs.FieldValue.{FieldValue}
use Rattle.http_map.specs.HeaderMap.{Entries, get_all}
use Rattle.http_types.specs.Version.{is_below_http11}
use Rattle.model_h1.specs.Request.{Header, ConnectionType, close, keep_alive}
use Rattle.model_h1.specs.RequestHead.{header_of}
use Rattle.model_h1.specs.LengthTable.{values_of, is_there, named_type, default_type, connection_of}
use Rattle.h1_decoder.specs.HeadItem.{version_of}
use Rattle.http_framing.specs.HeaderLines.{header_map}
use Rattle.model_client.specs.AnswerReading.{Answer, answer_is, IsTextOf, IsAnswerReading}
use Rattle.model_h1.specs.Closing.{is_kept}
use Rattle.h1_client.proofs.ValueLemmas.{value_bytes, head_values, last_value, trimmed_last}

-- ---- the text that was read

pub record WasRead (a : Answer) : Type 0 where
  pub fields : List Field
  pub headers_are : a.headers ≡ map header_of fields

text_read : (piece : List ℕ) (a : Answer) → IsTextOf piece a → WasRead a
text_read piece a is = record { fields = is.text.fields; headers_are = is.headers_are }

pub was_read : (piece : List ℕ) (a : Answer) → IsAnswerReading piece (answer_is a) → WasRead a
was_read piece a reading = elim reading.1 [
  | inl plain ↦ text_read piece a plain.1
  | inr lax ↦ text_read _ a lax.2
]

-- ---- the version

pub old_minor : (minor : ℕ) → is_below_http11 (version_of minor) ≡ (minor == 0)
old_minor zero = refl
old_minor (suc n) = sym (ne_eqb (suc n) 0 (λ e. omega (arith, e)))

pub kept_by_version : (minor : ℕ) → is_kept (default_type minor) ≡ not (minor == 0)
kept_by_version zero = refl
kept_by_version (suc n) = kept_by_test (suc n == 0)
  where
    kept_by_test : (t : Bool) → is_kept (if t then close else keep_alive) ≡ not t
    kept_by_test true = refl
    kept_by_test false = refl

-- ---- the lines

-- some values are there
pub some_there : (vs : List FieldValue) → is_there (value_bytes vs) ≡ not (length vs == 0)
some_there [] = refl
some_there (v ∷ vs) = ap (λ (b : Bool). not b) (sym (ne_eqb (length (v ∷ vs)) 0 (λ e. omega (arith, e))))

pub lines_there : (name : List ℕ) (headers : List Header) → is_there (values_of name headers) ≡ not (length (get_all (header_map headers) name) == 0)
lines_there name headers = ap is_there (sym (head_values name headers)) ∙ some_there (get_all (header_map headers) name)

-- the last line
pub last_line : (name : List ℕ) (headers : List Header)
    → last_or None (values_of name headers)
    ≡ option_map (λ (v : FieldValue). v.bytes) (slice_get (get_all (header_map headers) name) (length (get_all (header_map headers) name) - 1))
last_line name headers = ap (last_or None) (sym (head_values name headers)) ∙ last_value (get_all (header_map headers) name)

-- without blanks at its ends
pub last_is_trimmed : (a : Answer) (name value : List ℕ) → WasRead a → last_or None (values_of name a.headers) ≡ Some value → trim_ows value ≡ value
last_is_trimmed a name value read is =
    trimmed_last name read.fields value (ap (λ (hs : List Header). last_or None (values_of name hs)) (sym read.headers_are) ∙ is)

-- the connection by its last line
pub by_last : (a : Answer) (o : Option (List ℕ)) → last_or None (values_of (codes "connection") a.headers) ≡ o
    → connection_of a.minor a.headers ≡ unwrap_or (option_and_then named_type o) (default_type a.minor)
by_last a o is = ap (λ (o : Option (List ℕ)). unwrap_or (option_and_then named_type o) (default_type a.minor)) is

-- ---- all of it

-- the request asks for it, the body's end does, the lines do, or nothing but a doubt is left
pub closed_by_request : (c e : Bool) (k : ConnectionType) (m : Bool) → c ≡ true → true ≡ (c || not (is_kept (if e then close else k)) || m)
closed_by_request true e k m is = refl
closed_by_request false e k m is = absurd (cc is)

pub closed_by_end : (c e : Bool) (k : ConnectionType) (m : Bool) → e ≡ true → true ≡ (c || not (is_kept (if e then close else k)) || m)
closed_by_end true true k m is = refl
closed_by_end false true k m is = refl
closed_by_end c false k m is = absurd (cc is)

lost_test : (t m : Bool) → t ≡ false → true ≡ (not t || m)
lost_test true m is = absurd (cc is)
lost_test false m is = refl

pub closed_by_lines : (c e : Bool) (k : ConnectionType) (m : Bool) → is_kept k ≡ false → true ≡ (c || not (is_kept (if e then close else k)) || m)
closed_by_lines true e k m is = refl
closed_by_lines false true k m is = refl
closed_by_lines false false k m is = lost_test (is_kept k) m is

kept_test : (t m : Bool) → t ≡ true → m ≡ (not t || m)
kept_test true m is = refl
kept_test false m is = absurd (cc is)

pub closed_by_doubt : (c e : Bool) (k : ConnectionType) (m : Bool) → c ≡ false → e ≡ false → is_kept k ≡ true
    → m ≡ (c || not (is_kept (if e then close else k)) || m)
closed_by_doubt true e k m stays goes_on is = absurd (cc stays)
closed_by_doubt false true k m stays goes_on is = absurd (cc goes_on)
closed_by_doubt false false k m stays goes_on is = kept_test (is_kept k) m is

-- a coding in HTTP/1.0, beside a length, or in neither
pub doubt_old : (h o l : Bool) → o ≡ true → h ≡ (h && (o || l))
doubt_old true true l is = refl
doubt_old false true l is = refl
doubt_old h false l is = absurd (cc is)

pub doubt_length : (h o l : Bool) → l ≡ true → h ≡ (h && (o || l))
doubt_length true true true is = refl
doubt_length true false true is = refl
doubt_length false o true is = refl
doubt_length h o false is = absurd (cc is)

pub no_doubt : (h o l : Bool) → o ≡ false → l ≡ false → false ≡ (h && (o || l))
no_doubt h true l old length = absurd (cc old)
no_doubt h false true old length = absurd (cc length)
no_doubt true false false old length = refl
no_doubt false false false old length = refl

-- ---- what the code sees of them

-- the last value of a map under a name, by its bytes
pub last_line_of : (name : List ℕ) (lines : List Header) (m : Entries) (rest slice : List FieldValue) (found : Option FieldValue) → m ≡ header_map lines
    → rest ≡ get_all m name → slice ≡ rest → found ≡ slice_get slice (length slice - 1)
    → option_map (λ (v : FieldValue). v.bytes) found ≡ last_or None (values_of name lines)
last_line_of name lines m rest slice found is rest_is slice_is found_is =
    let all : slice ≡ get_all (header_map lines) name = slice_is ∙ rest_is ∙ ap (λ (m : Entries). get_all m name) is in
    ap (λ (o : Option FieldValue). option_map (λ (v : FieldValue). v.bytes) o)
    (found_is ∙ ap (λ (l : List FieldValue). slice_get l (length l - 1)) all)
    ∙ sym (last_line name lines)

-- whether a map has values under a name
pub has_lines_of : (name : List ℕ) (lines : List Header) (m : Entries) (rest slice : List FieldValue) (empty : Bool) → m ≡ header_map lines
    → rest ≡ get_all m name → slice ≡ rest → empty ≡ (length slice == 0) → not empty ≡ is_there (values_of name lines)
has_lines_of name lines m rest slice empty is rest_is slice_is empty_is =
    let all : slice ≡ get_all (header_map lines) name = slice_is ∙ rest_is ∙ ap (λ (m : Entries). get_all m name) is in
    ap (λ (b : Bool). not b) (empty_is ∙ ap (λ (l : List FieldValue). length l == 0) all) ∙ sym (lines_there name lines)
