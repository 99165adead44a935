-- A head is read back where its headers and its reason are clean.
use Rattle.std.proofs.Common.{◌≡◌, ℕ, ◌/◌, ◌<◌, ◌≤◌, ◌^◌, Bool, true, false, cond, List, [], ◌∷◌, ◌++◌, filter, eqb, codes, refl, arith}
use Rattle.std.specs.Prelude.{IsTrue, decimal}
use Rattle.std.specs.List.{AllByRecursion, list_all}
use Rattle.std.specs.Char.{is_ascii_digit}
use Rattle.std.proofs.lemmas.Bool.Decides.{nat_tests}
use Rattle.std.proofs.lemmas.Fmt.{decimal_is_IsNumeral}
use Rattle.std.proofs.lemmas.List.Elements.{All-weaker}
use Rattle.std.proofs.lemmas.List.Sums.{AllPass-from_list_all}
use Rattle.http.specs.StatusCode.{IsStatusCode}
use Rattle.http_header.specs.Token.{lowercase}
use Rattle.http_header.specs.FieldName.{is_field_name}
use Rattle.http_header.proofs.TokenLemmas.{IsFieldName-from_test}
use Rattle.httparse.specs.Grammar.{AllPass, is_value_byte, trim_ows}
use Rattle.model_h1.specs.Request.{Header, ConnectionType, close, keep_alive, upgrade}
use Rattle.model_h1.specs.Answer.{AnswerHead, BodySize, size_none, size_of, size_stream, Shape, shape_none, shape_length, shape_chunked, shape_raw, is_bodiless, has_header}
use Rattle.model_h1.specs.AnswerText.{head_text, by_name, is_sent, date_of}
use Rattle.model_h1.specs.Limits.{MAX_MOMENT}
use Rattle.model_client.specs.WrittenHead.{line_of, stream_lines, size_lines, framing_lines, connection_lines, date_lines, written_lines, written_reason, IsCleanLine, IsCleanHeader, IsCleanReason, IsReadBack}
use Rattle.model_client.specs.RequestText.{fits}
use Rattle.model_ends.proofs.NameGroups.{all_both, by_name_all}
use Rattle.model_ends.proofs.Framing.{digits_pass, trim_digits}
use Rattle.model_ends.proofs.WrittenHead.{reads_back}
use Rattle.model_ends.proofs.CleanNames.{clean_header}
use Rattle.model_ends.proofs.CleanDates.{date_clean}
use Rattle.model_ends.proofs.CleanReasons.{reason_clean}

-- ---- lines that a writer adds

-- a line whose name computes
named : (name value : List ℕ) → is_field_name name ≡ true → lowercase name ≡ name → AllPass is_value_byte value → trim_ows value ≡ value
    → IsCleanHeader (line_of name value)
named name value e lower all trimmed = record { name = IsFieldName-from_test name e; lower = lower; value = all; trimmed = trimmed }

-- and whose value computes
known : (name value : List ℕ) → is_field_name name ≡ true → lowercase name ≡ name → list_all is_value_byte value ≡ true → trim_ows value ≡ value
    → IsCleanHeader (line_of name value)
known name value e lower all trimmed = named name value e lower (AllPass-from_list_all is_value_byte value all) trimmed

-- a digit is a byte of a value
digit_value : (b : ℕ) → IsTrue (is_ascii_digit b) → IsTrue (is_value_byte b)
digit_value b digit = grind (arith, nat_tests, digit)

length_line : (n : ℕ) → n < 2 ^ 64 → IsCleanHeader (line_of (codes "content-length") (decimal n))
length_line n small =
    let digits = digits_pass (decimal n) (decimal_is_IsNumeral n small).0.1 in
    named (codes "content-length") (decimal n) refl refl
    (All-weaker (λ b. IsTrue (is_ascii_digit b)) (λ b. IsTrue (is_value_byte b)) digit_value (decimal n) digits) (trim_digits (decimal n) digits)

chunked_line : IsCleanHeader (line_of (codes "transfer-encoding") (codes "chunked"))
unfolding trim_ows
chunked_line = known _ _ refl refl refl refl

connection_line : (value : List ℕ) → list_all is_value_byte value ≡ true → trim_ows value ≡ value → IsCleanHeader (line_of (codes "connection") value)
connection_line value all trimmed = known (codes "connection") value refl refl all trimmed

-- ---- all lines

abbrev AreClean : List Header → Type 0
AreClean hs = AllByRecursion IsCleanHeader hs

stream_clean : (shape : Shape) → AreClean (stream_lines shape)
stream_clean shape_none = tt
stream_clean shape_chunked = (chunked_line, tt)
stream_clean shape_raw = tt
stream_clean (shape_length n) = tt

size_clean : (shape : Shape) (size : BodySize) → fits size → AreClean (size_lines shape size)
size_clean shape size_none small = tt
size_clean shape (size_of n) small = (length_line n small, tt)
size_clean shape size_stream small = stream_clean shape

-- lines, or none
unless : (t : Bool) (hs : List Header) → AreClean hs → AreClean (cond t [] hs)
unless true hs clean = tt
unless false hs clean = clean

only_if : (t : Bool) (hs : List Header) → AreClean hs → AreClean (cond t hs [])
only_if true hs clean = clean
only_if false hs clean = tt

connection_clean : (minor : ℕ) (camel : Bool) (kind : ConnectionType) → AreClean (connection_lines minor camel kind)
unfolding trim_ows
connection_clean minor true upgrade = (connection_line (codes "Upgrade") refl refl, tt)
connection_clean minor false upgrade = (connection_line (codes "upgrade") refl refl, tt)
connection_clean minor camel keep_alive = only_if (eqb minor 0) _ (connection_line (codes "keep-alive") refl refl, tt)
connection_clean minor camel close = unless (eqb minor 0) _ (connection_line (codes "close") refl refl, tt)

date_lines_clean : (has_date : Bool) (now : ℕ) → now < MAX_MOMENT → AreClean (date_lines has_date now)
date_lines_clean has_date now low =
    let d = date_clean now low in
    unless has_date _ (named (codes "date") (date_of (now / 1000)) refl refl d.0 d.1, tt)

-- those that are kept
kept_clean : (test : Header → Bool) (hs : List Header) → AreClean hs → AreClean (filter test hs)
kept_clean test [] clean = tt
kept_clean test (h ∷ hs) clean = by_test (test h) (kept_clean test hs clean.1)
  where
    by_test : (t : Bool) → AreClean (filter test hs) → AreClean (cond t (h ∷ filter test hs) (filter test hs))
    by_test true others = (clean.0, others)
    by_test false others = others

lines_clean : (minor : ℕ) (answer : AnswerHead) (shape : Shape) (size : BodySize) (kind : ConnectionType) (now : ℕ)
    → AreClean answer.headers → fits size → now < MAX_MOMENT → AreClean (written_lines minor answer shape size kind now)
lines_clean minor answer shape size kind now own small low =
    let a = framing_lines answer shape size in
    let b = connection_lines minor answer.in_camel_case kind in
    let c = filter (is_sent answer shape) (by_name answer.headers) in
    let d = date_lines (has_header (codes "date") answer.headers) now in
    all_both IsCleanHeader a (b ++ (c ++ d)) (unless (is_bodiless answer.status) _ (size_clean shape size small))
    (all_both IsCleanHeader b (c ++ d) (connection_clean minor answer.in_camel_case kind)
    (all_both IsCleanHeader c d (kept_clean (is_sent answer shape) (by_name answer.headers) (by_name_all IsCleanHeader answer.headers own))
    (date_lines_clean (has_header (codes "date") answer.headers) now low)))

-- as lines, with their names in camel case or not
each_line : (camel : Bool) (hs : List Header) → AreClean hs → AllByRecursion (IsCleanLine camel) hs
each_line camel [] clean = tt
each_line camel (h ∷ hs) clean = (clean_header camel h clean.0, each_line camel hs clean.1)

-- the lines that a head of clean headers is written with are clean
pub written_clean : (minor : ℕ) (answer : AnswerHead) (shape : Shape) (size : BodySize) (kind : ConnectionType) (now : ℕ)
    → AllByRecursion IsCleanHeader answer.headers → fits size → now < MAX_MOMENT
    → AllByRecursion (IsCleanLine answer.in_camel_case) (written_lines minor answer shape size kind now)
written_clean minor answer shape size kind now own small low =
    each_line answer.in_camel_case (written_lines minor answer shape size kind now) (lines_clean minor answer shape size kind now own small low)

-- so such a head is read back
pub clean_back : (minor : ℕ) (answer : AnswerHead) (shape : Shape) (size : BodySize) (kind : ConnectionType) (now : ℕ)
    → minor ≤ 1 → IsStatusCode answer.status → IsCleanReason answer.reason → AllByRecursion IsCleanHeader answer.headers → fits size → now < MAX_MOMENT
    → IsReadBack (head_text minor answer shape size kind now) minor answer.status (written_reason answer) (written_lines minor answer shape size kind now)
clean_back minor answer shape size kind now most status reason own small low =
    reads_back minor answer shape size kind now most status (reason_clean answer reason) (written_clean minor answer shape size kind now own small low)
