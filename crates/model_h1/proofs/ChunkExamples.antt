-- Short texts as bodies in chunks: a whole one with a trailer line, its first bytes, and one that is none.
use Rattle.std.proofs.Common.{◌≡◌, ℕ, zero, suc, ◌<◌, ◌≤◌, Bool, false, ◌==◌, List, [], ◌∷◌, ◌++◌, length, take, codes, refl, sym, ap, ◌∙◌, subst, arith, inl, inr}
use Rattle.std.specs.Prelude.{IsTrue, flat_map}
use Rattle.std.specs.List.{list_all, AllByRecursion}
use Rattle.std.proofs.lemmas.Bool.{cases_Bool, and_parts, eqb-true, false≢true}
use Rattle.std.specs.Char.{digit_value}
use Rattle.std.specs.Str.Parse.{AllDigits}
use Rattle.httparse.specs.Grammar.{is_ows, is_token_byte}
use Rattle.httparse.specs.Ascii.{crlf_bytes}
use Rattle.model_h1.specs.ChunkedText.{IsExtension, SaysSize, Segment, IsSegment, segment_text, Trailer, section_text, ChunkedText, chunked_text, IsChunkedText}
use Rattle.model_h1.specs.Runs.{segment_runs, cut_runs}
use Rattle.model_h1.specs.Chunked.{whole, unfinished, not_chunked, Spells, IsBeginning, IsChunked}

-- ---- a whole body

-- a size of one digit
abbrev digit_line : ℕ → List ℕ
digit_line digit = digit ∷ crlf_bytes

-- "1" says 1
says_one : SaysSize (digit_line 49) 1
says_one = record {
  digits = 49 ∷ [];
  blanks = [];
  extension = [];
  spelled = refl;
  hexadecimal = (omega arith, tt);
  says = refl;
  fits = omega arith;
  blank = refl;
  well_formed = inl refl;
}

-- "0" says 0
says_zero : SaysSize (digit_line 48) 0
says_zero = record {
  digits = 48 ∷ [];
  blanks = [];
  extension = [];
  spelled = refl;
  hexadecimal = (omega arith, tt);
  says = refl;
  fits = omega arith;
  blank = refl;
  well_formed = inl refl;
}

-- the trailer line of the example, as it is spelled
abbrev pub line : Trailer
line = record { name = codes "X"; value = codes " y " }

-- one byte, and one trailer line
abbrev one_byte : ChunkedText
one_byte = record { segments = record { line = digit_line 49; bytes = codes "a" } ∷ []; last = digit_line 48; trailers = line ∷ [] }

-- such a body is well formed
one_byte_is_text : IsChunkedText one_byte
unfolding is_token_byte
one_byte_is_text = record {
  segments = ((says_one, omega arith), tt);
  last = says_zero;
  trailers = ((omega arith, refl, refl), tt);
  lines = omega arith;
  room = omega arith;
}

-- its text
pub one_byte_read : IsChunked (codes "1\r\na\r\n0\r\nX: y \r\n\r\n") (whole 18 (line ∷ [])) (record { start = 3; end = 4 } ∷ [])
unfolding segment_runs
one_byte_read = (one_byte, omega arith, (one_byte_is_text, refl), refl, refl)

-- its first bytes
pub one_byte_begun : IsChunked (codes "1\r\na\r\n0") unfinished (record { start = 3; end = 4 } ∷ [])
unfolding segment_runs cut_runs
one_byte_begun = (one_byte, (codes "\r\nX: y \r\n\r\n", omega arith, (one_byte_is_text, refl)), refl)

-- ---- no body

-- the text begins with "g"
abbrev begins_g : List ℕ → Bool
begins_g [] = false
begins_g (b ∷ text) = b == 103

-- the text has some bytes, of which the first isn't "g"
abbrev BeginsOther : List ℕ → Type 0
BeginsOther text = (0 < length text) × (begins_g text ≡ false)

-- what follows changes nothing
others_append : (text more : List ℕ) → BeginsOther text → BeginsOther (text ++ more)
others_append [] more x = absurd (omega (arith, x.0))
others_append (b ∷ text) more x = (omega arith, x.1)

-- a number that is another, as a test
other_test : (b : ℕ) → (b ≡ 103 → ⊥) → (b == 103) ≡ false
other_test b other = elim (cases_Bool (b == 103)) [ inl same ↦ absurd (other (eqb-true b 103 same)) | inr fails ↦ fails ]

-- a size line begins with a digit, a blank, a semicolon or CR
line_other : (digits blanks extension : List ℕ) → AllDigits 16 digits → IsTrue (list_all is_ows blanks) → IsExtension extension
    → BeginsOther (digits ++ (blanks ++ (extension ++ crlf_bytes)))
line_other (d ∷ digits) blanks extension x y z =
    (omega arith, other_test d (λ same. let small : digit_value 103 < 16 = subst (λ b. digit_value b < 16) same x.0 in omega (arith, small)))
line_other [] (b ∷ blanks) extension x y z =
    (omega arith, other_test b (λ same. false≢true (ap is_ows (sym same) ∙ (and_parts (is_ows b) (list_all is_ows blanks) y).0)))
line_other [] [] extension x y (inl empty) = subst (λ text. BeginsOther (text ++ crlf_bytes)) (sym empty) (omega arith, refl)
line_other [] [] extension x y (inr (text, is, passes)) = subst (λ t. BeginsOther (t ++ crlf_bytes)) (sym is) (omega arith, refl)

-- each size line
size_line_other : (text : List ℕ) (size : ℕ) → SaysSize text size → BeginsOther text
size_line_other text size x =
    subst BeginsOther (sym x.spelled) (line_other x.digits x.blanks x.extension x.hexadecimal x.blank x.well_formed)

-- segments, a last line and more
segments_other : (segments : List Segment) (last behind : List ℕ) → AllByRecursion IsSegment segments → SaysSize last 0
    → BeginsOther (flat_map segment_text segments ++ (last ++ behind))
segments_other [] last behind x y = others_append last behind (size_line_other last 0 y)
segments_other (s ∷ more) last behind x y =
    let line = size_line_other s.line (length s.bytes) x.0.0 in
    let segment = others_append s.line (s.bytes ++ crlf_bytes) line in
    others_append (segment_text s ++ flat_map segment_text more) (last ++ behind) (others_append (segment_text s) (flat_map segment_text more) segment)

-- the text of each body
text_other : (t : ChunkedText) → IsChunkedText t → BeginsOther (chunked_text t)
text_other t x = segments_other t.segments t.last (section_text t.trailers ++ crlf_bytes) x.segments x.last

-- no front of "g" spells a body
no_front : (k : ℕ) (t : ChunkedText) → Spells (take k (codes "g")) t → ⊥
no_front zero t x = omega (arith, ap length x.1, (text_other t x.0).0)
no_front (suc k) t x = false≢true (sym (text_other t x.0).1 ∙ ap begins_g (sym x.1))

-- nor begins one, but for the empty front
no_beginning : (n : ℕ) → 0 < n → n ≤ 1 → (t : ChunkedText) → IsBeginning (take n (codes "g")) t → ⊥
no_beginning zero some most t x = omega arith
no_beginning (suc n) some most t (more, has, x) = false≢true (sym (text_other t x.0).1 ∙ ap begins_g (sym x.1))

-- the empty body
abbrev empty_body : ChunkedText
empty_body = record { segments = []; last = digit_line 48; trailers = [] }

-- "g" is no body
pub g_read : IsChunked (codes "g") not_chunked []
unfolding cut_runs segment_runs
g_read =
    let empty : IsChunkedText empty_body = record { segments = tt; last = says_zero; trailers = tt; lines = omega arith; room = omega arith } in (
      empty_body,
      0,
      record { within = omega arith; begins = (chunked_text empty_body, omega arith, (empty, refl)); longest = no_beginning },
      no_front,
      refl,
    )
