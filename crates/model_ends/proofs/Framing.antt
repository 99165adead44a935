-- The lines of a written head frame the body that was written.
use Rattle.std.proofs.Common.{◌≡◌, ℕ, ◌^◌, ◌<◌, Bool, true, false, not, ◌&&◌, ◌||◌, List, [], ◌∷◌, ◌++◌, length, reverse, map, filter, cond, eqb, refl, sym, ap, ap₂, ◌∙◌, subst, arith, le-leb, lt-ltb, append-nil}
use Rattle.std.specs.Prelude.{IsTrue, codes, Some, None, Option, decimal, nat_lt, bytes_eq}
use Rattle.std.specs.List.{list_all}
use Rattle.std.specs.Char.{is_ascii_digit}
use Rattle.std.specs.Str.Parse.{AllDigits, digits_value}
use Rattle.std.proofs.lemmas.Fmt.{decimal_is_IsNumeral}
use Rattle.std.proofs.lemmas.Bool.{false≢true, cond-true, cond-false, or_right}
use Rattle.std.proofs.lemmas.Str.Parse.{digit_from_value}
use Rattle.std.proofs.lemmas.List.{map-append}
use Rattle.std.proofs.lemmas.List.Elements.{All-head, All-nil, All-cons, filter-append}
use Rattle.std.proofs.lemmas.Bool.Decides.{nat_tests}
use Rattle.httparse.specs.Grammar.{AllPass, is_ows, skip_ows, trim_ows}
use Rattle.httparse.proofs.TrimLemmas.{AllPass-reverse}
use Rattle.std.proofs.lemmas.List.{reverse-reverse}
use Rattle.model_h1.specs.Request.{Header, ConnectionType, close, keep_alive, upgrade, BodyKind, no_body, fixed_body, chunked_body, raw_body}
use Rattle.model_h1.specs.LengthTable.{values_of, length_value, stated_length, is_length_refused}
use Rattle.model_h1.specs.Answer.{AnswerHead, BodySize, size_of, Shape, shape_length, is_bodiless, has_header, is_raw}
use Rattle.model_h1.specs.AnswerText.{by_name, is_sent}
use Rattle.model_client.specs.AnswerTable.{is_answer_coding_refused, comes_in_chunks, stated_body, has_no_content, answer_kind}
use Rattle.model_client.specs.WrittenHead.{line_of, framing_lines, connection_lines, date_lines, written_lines}

-- ---- a length that is written is read

pub digits_pass : (ds : List ℕ) → AllDigits 10 ds → AllPass is_ascii_digit ds
digits_pass [] all = All-nil (λ b. IsTrue (is_ascii_digit b))
digits_pass (c ∷ cs) all =
    All-cons (λ b. IsTrue (is_ascii_digit b)) c cs (let k = digit_from_value c all.0 in λ i. le-leb 48 c k.0 i && le-leb c 57 k.1 i) (digits_pass cs all.1)

all_digits : (ds : List ℕ) → AllDigits 10 ds → list_all is_ascii_digit ds ≡ true
all_digits [] all = refl
all_digits (c ∷ cs) all = let k = digit_from_value c all.0 in λ i. (le-leb 48 c k.0 i && le-leb c 57 k.1 i) && all_digits cs all.1 i

no_blank : (b : ℕ) → is_ascii_digit b ≡ true → is_ows b ≡ false
no_blank b digit = grind (arith, nat_tests)

skip_digits : (ds : List ℕ) → AllPass is_ascii_digit ds → skip_ows ds ≡ ds
skip_digits [] pass = refl
skip_digits (b ∷ ds) pass = cond-false (is_ows b) _ _ (no_blank b (All-head (λ x. IsTrue (is_ascii_digit x)) b ds pass))

pub trim_digits : (ds : List ℕ) → AllPass is_ascii_digit ds → trim_ows ds ≡ ds
unfolding trim_ows
trim_digits ds pass =
    ap (λ l. reverse (skip_ows (reverse l))) (skip_digits ds pass)
    ∙ ap reverse (skip_digits (reverse ds) (AllPass-reverse is_ascii_digit ds pass)) ∙ reverse-reverse ds

pub length_read : (n : ℕ) → n < 2 ^ 64 → length_value (trim_ows (decimal n)) ≡ Some n
length_read n fits =
    let numeral = decimal_is_IsNumeral n fits in
    let value : digits_value 10 (decimal n) ≡ n = numeral.1 in
    let test : (nat_lt 0 (length (decimal n)) && list_all is_ascii_digit (decimal n) && nat_lt (digits_value 10 (decimal n)) (2 ^ 64)) ≡ true =
    λ i. lt-ltb 0 (length (decimal n)) numeral.0.0 i && all_digits (decimal n) numeral.0.1 i && lt-ltb (digits_value 10 (decimal n)) (2 ^ 64) (subst (λ k. k < 2 ^ 64) (sym value) fits) i in
    ap length_value (trim_digits (decimal n) (digits_pass (decimal n) numeral.0.1))
    ∙ cond-true _ (Some (digits_value 10 (decimal n))) None test ∙ ap Some value

-- ---- which lines there are

pub values-append : (name : List ℕ) (a b : List Header) → values_of name (a ++ b) ≡ values_of name a ++ values_of name b
values-append name a b =
    ap (map (λ h. h.value)) (filter-append (λ h. bytes_eq h.name name) a b)
    ∙ map-append (λ h. h.value) (filter (λ h. bytes_eq h.name name) a) (filter (λ h. bytes_eq h.name name) b)

-- a name of which no line passes the test has no line
pub none_kept : (name : List ℕ) (test : Header → Bool) → ((h : Header) → bytes_eq h.name name ≡ true → test h ≡ false)
    → (hs : List Header) → values_of name (filter test hs) ≡ []
none_kept name test drops [] = refl
none_kept name test drops (h ∷ hs) = by_name_test (bytes_eq h.name name) refl (test h) refl (none_kept name test drops hs)
  where
    by_name_test : (n : Bool) → bytes_eq h.name name ≡ n → (t : Bool) → test h ≡ t → values_of name (filter test hs) ≡ []
        → values_of name (cond t (h ∷ filter test hs) (filter test hs)) ≡ []
    by_name_test n is false fails none = none
    by_name_test true is true passes none = absurd (false≢true (sym (drops h is) ∙ passes))
    by_name_test false is true passes none = ap (map (λ h. h.value)) (cond-false (bytes_eq h.name name) _ _ is) ∙ none

module _ (answer : AnswerHead) (shape : Shape) (own : (eqb answer.status 304 || (is_raw shape && not (eqb answer.status 101))) ≡ false) where
  dropped : (h : Header) → (bytes_eq h.name (codes "content-length") || bytes_eq h.name (codes "transfer-encoding")) ≡ true → is_sent answer shape h ≡ false
  dropped h framing = grind (arith, framing, own)

  pub no_length : (hs : List Header) → values_of (codes "content-length") (filter (is_sent answer shape) hs) ≡ []
  no_length hs = none_kept (codes "content-length") (is_sent answer shape) (λ h is. dropped h (λ i. is i || bytes_eq h.name (codes "transfer-encoding"))) hs

  pub no_coding : (hs : List Header) → values_of (codes "transfer-encoding") (filter (is_sent answer shape) hs) ≡ []
  no_coding hs = none_kept (codes "transfer-encoding") (is_sent answer shape) (λ h is. dropped h (or_right _ _ is)) hs

-- ---- the lines of a written head

pub connection_other : (minor : ℕ) (camel : Bool) (kind : ConnectionType) (name : List ℕ) → bytes_eq (codes "connection") name ≡ false
    → values_of name (connection_lines minor camel kind) ≡ []
connection_other minor camel upgrade name other = ap (map (λ h. h.value)) (cond-false (bytes_eq (codes "connection") name) _ _ other)
connection_other minor camel keep_alive name other = by_test (eqb minor 0)
  where
    by_test : (t : Bool) → values_of name (cond t (line_of (codes "connection") (codes "keep-alive") ∷ []) []) ≡ []
    by_test true = ap (map (λ h. h.value)) (cond-false (bytes_eq (codes "connection") name) _ _ other)
    by_test false = refl
connection_other minor camel close name other = by_test (eqb minor 0)
  where
    by_test : (t : Bool) → values_of name (cond t [] (line_of (codes "connection") (codes "close") ∷ [])) ≡ []
    by_test true = refl
    by_test false = ap (map (λ h. h.value)) (cond-false (bytes_eq (codes "connection") name) _ _ other)

pub date_other : (has_date : Bool) (now : ℕ) (name : List ℕ) → bytes_eq (codes "date") name ≡ false → values_of name (date_lines has_date now) ≡ []
date_other true now name other = refl
date_other false now name other = ap (map (λ h. h.value)) (cond-false (bytes_eq (codes "date") name) _ _ other)

-- only the line that frames the body can have the name
pub framing_alone : (minor : ℕ) (answer : AnswerHead) (shape : Shape) (size : BodySize) (kind : ConnectionType) (now : ℕ) (name : List ℕ)
    → bytes_eq (codes "connection") name ≡ false → bytes_eq (codes "date") name ≡ false
    → values_of name (filter (is_sent answer shape) (by_name answer.headers)) ≡ []
    → values_of name (written_lines minor answer shape size kind now) ≡ values_of name (framing_lines answer shape size)
framing_alone minor answer shape size kind now name connection date own =
    let a = framing_lines answer shape size in
    let b = connection_lines minor answer.in_camel_case kind in
    let c = filter (is_sent answer shape) (by_name answer.headers) in
    let d = date_lines (has_header (codes "date") answer.headers) now in
    values-append name a (b ++ (c ++ d))
    ∙ ap (λ l. values_of name a ++ l) (values-append name b (c ++ d) ∙ ap₂ (λ x y. x ++ y) (connection_other minor answer.in_camel_case kind name connection)
    (values-append name c d ∙ ap₂ (λ x y. x ++ y) own (date_other (has_header (codes "date") answer.headers) now name date)))
    ∙ append-nil (values_of name a)

-- the kind of body that a client reads by the framing lines alone
abbrev pub read_kind : ℕ → ℕ → List (List ℕ) → List (List ℕ) → Option BodyKind
read_kind minor status lengths codings =
    cond (is_length_refused lengths || is_answer_coding_refused minor codings) None (Some
    (cond (has_no_content status) no_body (cond (eqb status 101) raw_body (cond (comes_in_chunks minor codings) chunked_body (stated_body (stated_length lengths))))))

-- what the client reads of a written head
pub kind_read : (minor : ℕ) (answer : AnswerHead) (shape : Shape) (size : BodySize) (kind : ConnectionType) (now : ℕ)
    → (eqb answer.status 304 || (is_raw shape && not (eqb answer.status 101))) ≡ false
    → answer_kind minor answer.status (written_lines minor answer shape size kind now)
    ≡ read_kind minor answer.status (values_of (codes "content-length") (framing_lines answer shape size)) (values_of (codes "transfer-encoding") (framing_lines answer shape size))
kind_read minor answer shape size kind now own =
    ap₂ (read_kind minor answer.status)
    (framing_alone minor answer shape size kind now (codes "content-length") refl refl (no_length answer shape own (by_name answer.headers)))
    (framing_alone minor answer shape size kind now (codes "transfer-encoding") refl refl (no_coding answer shape own (by_name answer.headers)))

-- the same, where no header of its own frames it
pub kind_read_by : (minor : ℕ) (answer : AnswerHead) (shape : Shape) (size : BodySize) (kind : ConnectionType) (now : ℕ)
    → values_of (codes "content-length") (filter (is_sent answer shape) (by_name answer.headers)) ≡ []
    → values_of (codes "transfer-encoding") (filter (is_sent answer shape) (by_name answer.headers)) ≡ []
    → answer_kind minor answer.status (written_lines minor answer shape size kind now)
    ≡ read_kind minor answer.status (values_of (codes "content-length") (framing_lines answer shape size)) (values_of (codes "transfer-encoding") (framing_lines answer shape size))
kind_read_by minor answer shape size kind now no_length no_coding =
    ap₂ (read_kind minor answer.status)
    (framing_alone minor answer shape size kind now (codes "content-length") refl refl no_length)
    (framing_alone minor answer shape size kind now (codes "transfer-encoding") refl refl no_coding)

-- a stated length
pub length_frames : (minor : ℕ) (answer : AnswerHead) (n : ℕ) (kind : ConnectionType) (now : ℕ) → n < 2 ^ 64 → 0 < n
    → is_bodiless answer.status ≡ false
    → answer_kind minor answer.status (written_lines minor answer (shape_length n) (size_of n) kind now) ≡ Some (fixed_body n)
length_frames minor answer n kind now fits some bodied =
    let none : has_no_content answer.status ≡ false = grind (arith, bodied) in
    let not_304 : (eqb answer.status 304 || (false && not (eqb answer.status 101))) ≡ false = grind (arith, bodied) in
    let not_101 : eqb answer.status 101 ≡ false = grind (arith, nat_tests, bodied) in
    let lines : framing_lines answer (shape_length n) (size_of n) ≡ line_of (codes "content-length") (decimal n) ∷ [] = cond-false (is_bodiless answer.status) _ _ bodied in
    kind_read minor answer (shape_length n) (size_of n) kind now not_304
    ∙ ap (λ ls. read_kind minor answer.status (values_of (codes "content-length") ls) (values_of (codes "transfer-encoding") ls)) lines
    ∙ rw (length_read n fits, none, not_101, lt-ltb 0 n some) refl
