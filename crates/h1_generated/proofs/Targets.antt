-- A slash and the digits of a number are a target.
use Rattle.std.proofs.Common.{◌≡◌, ℕ, ◌^◌, ◌<◌, ◌≤◌, List, [], ◌∷◌, length, None, refl, sym, subst, inl, inr, arith, le-ltb}
use Rattle.std.specs.Prelude.{IsTrue, All, IsUtf8, decimal}
use Rattle.std.specs.Str.Parse.{AllDigits}
use Rattle.std.proofs.lemmas.Bool.Decides.{nat_tests}
use Rattle.std.proofs.lemmas.Fmt.{decimal_is_IsNumeral, length-decimal-le}
use Rattle.std.proofs.lemmas.List.{take_all}
use Rattle.std.proofs.lemmas.List.Elements.{All-nil, All-cons, All-weaker, All-get_or, All-take}
use Rattle.std.proofs.lemmas.Str.{IsUtf8-from_ascii}
use Rattle.std.proofs.lemmas.Str.Ascii.{IsAscii-from_all}
use Rattle.std.proofs.lemmas.Str.Parse.{digit_from_value}
use Rattle.httparse.specs.Grammar.{is_uri_byte}
use Rattle.http_uri.specs.ByteClasses.{is_path_byte, index_of}
use Rattle.http_uri.specs.Grammar.{IsPathAndQuery, without_fragment}
use Rattle.http_uri.proofs.RunLemmas.{index_of_is}
use Rattle.model_h1.specs.RequestHead.{IsTarget}

-- the byte is a slash or a digit
abbrev pub IsLow : ℕ → Type 0
IsLow b = (47 ≤ b) × (b ≤ 57)

low_digits : (ds : List ℕ) → AllDigits 10 ds → All IsLow ds
low_digits [] all = All-nil IsLow
low_digits (c ∷ cs) all = let d = digit_from_value c all.0 in All-cons IsLow c cs (omega (arith, d.0), d.1) (low_digits cs all.1)

-- the target of this number
abbrev pub target : ℕ → List ℕ
target k = 47 ∷ decimal k

pub low_target : (k : ℕ) → k < 2 ^ 64 → All IsLow (target k)
low_target k fits =
    All-cons IsLow 47 (decimal k) (omega arith, omega arith) (low_digits (decimal k) (decimal_is_IsNumeral k fits).0.1)

uri_byte : (b : ℕ) → IsLow b → IsTrue (is_uri_byte b)
uri_byte b low = let below = low.0 in let above = low.1 in grind (arith, nat_tests)

path_byte : (b : ℕ) → IsLow b → IsTrue (is_path_byte b)
path_byte b low = let below = low.0 in let above = low.1 in grind (arith, nat_tests)

pub uri_bytes : (text : List ℕ) → All IsLow text → All (λ b. IsTrue (is_uri_byte b)) text
uri_bytes text low = All-weaker IsLow (λ b. IsTrue (is_uri_byte b)) uri_byte text low

pub is_utf8 : (text : List ℕ) → All IsLow text → IsUtf8 text
is_utf8 text low = IsUtf8-from_ascii text (IsAscii-from_all text (All-weaker IsLow (λ b. b < 128) (λ b l. omega (arith, l.1)) text low))

-- a byte that is no such one stands nowhere in it
absent : (c : ℕ) (text : List ℕ) → 57 < c → All IsLow text → index_of c text ≡ length text
absent c text other low =
    index_of_is c text (length text) (omega arith) (λ k h e. omega (arith, (All-get_or IsLow text k 0 h low).1)) (λ h. absurd (omega arith))

-- the same of one below
absent_below : (c : ℕ) (text : List ℕ) → c < 47 → All IsLow text → index_of c text ≡ length text
absent_below c text other low =
    index_of_is c text (length text) (omega arith) (λ k h e. omega (arith, (All-get_or IsLow text k 0 h low).0)) (λ h. absurd (omega arith))

-- all of it is kept
whole : (text : List ℕ) → All IsLow text → without_fragment text ≡ text
whole text low = rw (absent_below 35 text (omega arith) low) (take_all (length text) text (omega arith))

path_text : (k : ℕ) → All IsLow (target k) → length (target k) ≤ 65534 → IsPathAndQuery (target k)
path_text k low short =
    let text = target k in
    let none = absent 63 text (omega arith) low in
    let last = le-ltb (length text) (length text) (omega arith) in
    record {
      start = inr (inr (inl refl));
      path = All-take (λ b. IsTrue (is_path_byte b)) (index_of 63 text) text (All-weaker IsLow (λ b. IsTrue (is_path_byte b)) path_byte text low);
      query = rw (none, last) tt;
      utf8 = is_utf8 text low;
      short = short;
    }

pub short_target : (k : ℕ) → k < 2 ^ 64 → length (target k) ≤ 21
short_target k fits = omega (arith, length-decimal-le 20 k (omega arith) (omega (arith, fits)) fits)

-- it is a target in origin form (RFC 7230, section 5.3.1)
pub is_target : (k : ℕ) → k < 2 ^ 64 → IsTarget (target k)
is_target k fits =
    let text = target k in
    let low = low_target k fits in
    let short : length text ≤ 65534 = omega (arith, short_target k fits) in
    let kept = subst IsPathAndQuery (sym (whole text low)) (path_text k low short) in
    (None, None, text, (short, ((inr refl, record { start = inr refl; short = short; kept = kept }), sym (whole text low))))
