-- The number of a Content-Length, digit by digit.
use Rattle.std.proofs.Common.{◌≡◌, ℕ, ◌+◌, ◌*◌, ◌<◌, ◌≤◌, ◌^◌, Bool, true, false, ◌&&◌, if◌then◌else◌, List, [], ◌∷◌, length, get_or, drop, Option, Some, None, refl, ap, ◌∙◌, arith, add-one, drop-cons}
use Rattle.std.specs.Prelude.{nat_lt}
use Rattle.std.specs.Char.{digit_value, is_ascii_digit}
use Rattle.std.specs.List.{list_all}
use Rattle.std.specs.Str.Parse.{digits_value, digits_value_after}
use Rattle.std.proofs.Math.Bool.{and-false}
use Rattle.std.proofs.lemmas.Bool.{le-ltb, lt-ltb}
use Rattle.model_h1.specs.LengthTable.{length_value}

-- the number that more digits spell behind those of n
abbrev pub length_from : ℕ → List ℕ → Option ℕ
length_from n text =
    if list_all is_ascii_digit text && nat_lt (digits_value_after 10 n text) (2 ^ 64) then Some (digits_value_after 10 n text) else None

-- digits make a number no smaller
digits_grow : (n : ℕ) (text : List ℕ) → n ≤ digits_value_after 10 n text
digits_grow n [] = omega arith
digits_grow n (c ∷ text) = omega (arith, digits_grow (n * 10 + digit_value c) text)

-- a number that is too large stays so
pub length_from-large : (n : ℕ) (text : List ℕ) → 2 ^ 64 ≤ n → length_from n text ≡ None
length_from-large n text large =
    let over : 2 ^ 64 ≤ digits_value_after 10 n text = omega (arith, digits_grow n text) in
    let fails : nat_lt (digits_value_after 10 n text) (2 ^ 64) ≡ false = le-ltb (digits_value_after 10 n text) (2 ^ 64) over in
    ap (λ (b : Bool). if b then Some (digits_value_after 10 n text) else None)
    (ap (λ (b : Bool). list_all is_ascii_digit text && b) fails ∙ and-false (list_all is_ascii_digit text))

-- a number that fits is the number where no digit follows
pub length_from-end : (n : ℕ) → n < 2 ^ 64 → length_from n [] ≡ Some n
length_from-end n fits = ap (λ (b : Bool). if b then Some n else None) (lt-ltb n (2 ^ 64) fits)

module _ (text : List ℕ) (i n : ℕ) (inside : i < length text) where
  -- the next byte and those behind it
  next_byte : drop i text ≡ get_or text i 0 ∷ drop (i + 1) text
  next_byte = rw (add-one, drop-cons text i 0) refl

  pub length_from-digit : is_ascii_digit (get_or text i 0) ≡ true
      → length_from n (drop i text) ≡ length_from (n * 10 + digit_value (get_or text i 0)) (drop (i + 1) text)
  length_from-digit digit = ap (length_from n) next_byte ∙ rw digit refl

  pub length_from-other : is_ascii_digit (get_or text i 0) ≡ false → length_from n (drop i text) ≡ None
  length_from-other other = ap (length_from n) next_byte ∙ rw other refl

-- a value that isn't empty spells what its digits do
pub length_value-some : (text : List ℕ) → 0 < length text → length_value text ≡ length_from 0 text
length_value-some text some =
    ap (λ (b : Bool). if b && list_all is_ascii_digit text && nat_lt (digits_value 10 text) (2 ^ 64) then Some (digits_value 10 text) else None)
    (lt-ltb 0 (length text) some)

pub length_value-empty : (text : List ℕ) → length text ≡ 0 → length_value text ≡ None
length_value-empty [] none = refl
length_value-empty (c ∷ text) none = absurd (omega arith)
