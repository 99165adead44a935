-- The tests on a subtag exclude one another.
use Rattle.std.proofs.Common.{◌≡◌, ℕ, ◌<◌, ◌≤◌, ◌⊎◌, inl, inr, Bool, true, false, ◌&&◌, ◌||◌, not, List, [], ◌∷◌, length, refl, sym, arith}
use Rattle.std.specs.Prelude.{◌==◌, nat_le, slice_index}
use Rattle.std.specs.List.{list_all}
use Rattle.std.specs.Char.{is_ascii_alphabetic, is_ascii_digit, is_ascii_alphanumeric}
use Rattle.std.proofs.lemmas.Bool.{and_parts}
use Rattle.std.proofs.lemmas.Bool.Decides.{nat_tests}
use Rattle.http_values.specs.LanguageTag.{has_len, is_letters, is_letters_or_digits, is_digits, is_region, is_variant, is_x, is_singleton}

pub and_of : (a b : Bool) → a ≡ true → b ≡ true → (a && b) ≡ true
and_of a b h k = rw (h, k) refl

pub or_cases : (a b : Bool) → (a || b) ≡ true → (a ≡ true) ⊎ (b ≡ true)
or_cases true b h = inl refl
or_cases false b h = inr h

len_inside : (low high n : ℕ) → (nat_le low n && nat_le n high) ≡ true → (low ≤ n) × (n ≤ high)
len_inside low high n h = grind (arith, nat_tests)

len_outside : (low high n : ℕ) → (n < low) ⊎ (high < n) → (nat_le low n && nat_le n high) ≡ false
len_outside low high n (inl h) = grind (arith, nat_tests)
len_outside low high n (inr h) = grind (arith, nat_tests)

false_and : (a b : Bool) → a ≡ false → (a && b) ≡ false
false_and a b h = rw h refl

-- what passes has a length in the range, and bytes of the class
pub long : (low high : ℕ) (test : ℕ → Bool) (s : List ℕ) → (has_len low high s && list_all test s) ≡ true → (low ≤ length s) × (length s ≤ high)
long low high test s h = len_inside low high (length s) (and_parts (has_len low high s) (list_all test s) h).0

pub passes : (low high : ℕ) (test : ℕ → Bool) (s : List ℕ) → (has_len low high s && list_all test s) ≡ true → list_all test s ≡ true
passes low high test s h = (and_parts (has_len low high s) (list_all test s) h).1

-- a subtag of another length fails
pub other_length : (low high : ℕ) (test : ℕ → Bool) (s : List ℕ) → (length s < low) ⊎ (high < length s) → (has_len low high s && list_all test s) ≡ false
other_length low high test s h = false_and (has_len low high s) (list_all test s) (len_outside low high (length s) h)

-- `x` and a singleton have one byte
pub x_long : (s : List ℕ) → is_x s ≡ true → length s ≡ 1
unfolding is_x
x_long s h = let one = (and_parts (length s == 1) _ h).0 in grind (arith, nat_tests)

pub singleton_long : (s : List ℕ) → is_singleton s ≡ true → length s ≡ 1
unfolding is_singleton
singleton_long s h =
    let range = long 1 1 is_ascii_alphanumeric s (and_parts (is_letters_or_digits 1 1 s) (not (is_x s)) h).0 in omega (arith, range)

pub x_is_no_singleton : (s : List ℕ) → is_x s ≡ true → is_singleton s ≡ false
unfolding is_singleton
x_is_no_singleton s h = rw h (no_more (is_letters_or_digits 1 1 s))
  where
    no_more : (a : Bool) → (a && false) ≡ false
    no_more true = refl
    no_more false = refl

-- the lengths of a region and of a variant
pub region_long : (s : List ℕ) → is_region s ≡ true → (2 ≤ length s) × (length s ≤ 3)
unfolding is_region
region_long s h = elim (or_cases (is_letters 2 2 s) (is_digits 3 3 s) h) [
  | inl two ↦ let range = long 2 2 is_ascii_alphabetic s two in (omega (arith, range), omega (arith, range))
  | inr three ↦ let range = long 3 3 is_ascii_digit s three in (omega (arith, range), omega (arith, range))
]

pub variant_long : (s : List ℕ) → is_variant s ≡ true → (4 ≤ length s) × (length s ≤ 8)
unfolding is_variant
variant_long s h = elim (or_cases (is_letters_or_digits 5 8 s) (is_letters_or_digits 4 4 s && is_ascii_digit (slice_index s 0)) h) [
  | inl more ↦ let range = long 5 8 is_ascii_alphanumeric s more in (omega (arith, range), omega (arith, range))
  | inr four ↦
      let range = long 4 4 is_ascii_alphanumeric s (and_parts (is_letters_or_digits 4 4 s) (is_ascii_digit (slice_index s 0)) four).0 in
      (omega (arith, range), omega (arith, range))
]

either_false : (a b : Bool) → a ≡ false → b ≡ false → (a || b) ≡ false
either_false a b h k = rw (h, k) refl

-- a subtag of another length is neither
pub no_region : (s : List ℕ) → (length s < 2) ⊎ (3 < length s) → is_region s ≡ false
unfolding is_region
no_region s (inl h) = either_false _ _ (other_length 2 2 is_ascii_alphabetic s (inl h)) (other_length 3 3 is_ascii_digit s (inl (omega (arith, h))))
no_region s (inr h) = either_false _ _ (other_length 2 2 is_ascii_alphabetic s (inr (omega (arith, h)))) (other_length 3 3 is_ascii_digit s (inr h))

pub no_variant : (s : List ℕ) → length s < 4 → is_variant s ≡ false
unfolding is_variant
no_variant s h =
    either_false _ _ (other_length 5 8 is_ascii_alphanumeric s (inl (omega (arith, h))))
    (false_and _ (is_ascii_digit (slice_index s 0)) (other_length 4 4 is_ascii_alphanumeric s (inl h)))

-- a digit is no letter
first_letter : (s : List ℕ) → 0 < length s → list_all is_ascii_alphabetic s ≡ true → is_ascii_digit (slice_index s 0) ≡ true → false ≡ true
first_letter [] h k d = absurd (omega (arith, h))
first_letter (b ∷ s) h k d = let letter = (and_parts (is_ascii_alphabetic b) (list_all is_ascii_alphabetic s) k).0 in grind (arith, nat_tests)

no_letters_by : (low high : ℕ) (s : List ℕ) (b : Bool) → is_letters low high s ≡ b → 0 < length s → is_ascii_digit (slice_index s 0) ≡ true → b ≡ false
no_letters_by low high s false e h d = refl
no_letters_by low high s true e h d = sym (first_letter s h (passes low high is_ascii_alphabetic s e) d)

-- what begins with a digit is no run of letters
pub no_letters : (low high : ℕ) (s : List ℕ) → 0 < length s → is_ascii_digit (slice_index s 0) ≡ true → is_letters low high s ≡ false
no_letters low high s h d = no_letters_by low high s (is_letters low high s) refl h d

digits_first : (s : List ℕ) → 0 < length s → list_all is_ascii_digit s ≡ true → is_ascii_digit (slice_index s 0) ≡ true
digits_first [] h k = absurd (omega (arith, h))
digits_first (b ∷ s) h k = (and_parts (is_ascii_digit b) (list_all is_ascii_digit s) k).0

-- a region is no further language
pub region_is_no_extlang : (s : List ℕ) → is_region s ≡ true → is_letters 3 3 s ≡ false
unfolding is_region
region_is_no_extlang s h = elim (or_cases (is_letters 2 2 s) (is_digits 3 3 s) h) [
  | inl two ↦ let range = long 2 2 is_ascii_alphabetic s two in other_length 3 3 is_ascii_alphabetic s (inl (omega (arith, range)))
  | inr three ↦
      let range = long 3 3 is_ascii_digit s three in
      no_letters 3 3 s (omega (arith, range)) (digits_first s (omega (arith, range)) (passes 3 3 is_ascii_digit s three))
]

-- a variant is no script
pub variant_is_no_script : (s : List ℕ) → is_variant s ≡ true → is_letters 4 4 s ≡ false
unfolding is_variant
variant_is_no_script s h = elim (or_cases (is_letters_or_digits 5 8 s) (is_letters_or_digits 4 4 s && is_ascii_digit (slice_index s 0)) h) [
  | inl more ↦ let range = long 5 8 is_ascii_alphanumeric s more in other_length 4 4 is_ascii_alphabetic s (inr (omega (arith, range)))
  | inr four ↦
      let both = and_parts (is_letters_or_digits 4 4 s) (is_ascii_digit (slice_index s 0)) four in
      let range = long 4 4 is_ascii_alphanumeric s both.0 in no_letters 4 4 s (omega (arith, range)) both.1
]
