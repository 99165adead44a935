-- What a quality prints is read as that quality.
use Rattle.std.proofs.Common.{◌≡◌, ℕ, ◌+◌, ◌*◌, ◌/◌, ◌%◌, ◌≤◌, ◌<◌, [], ◌∷◌, IsTrue, Bool, true, false, refl, subst, arith, cond, ◌&&◌, sym, ◌∙◌, lit≤}
use Rattle.std.specs.Prelude.{◌==◌}
use Rattle.std.specs.Char.{is_ascii_digit}
use Rattle.std.specs.List.{list_all}
use Rattle.std.proofs.lemmas.Bool.Decides.{nat_tests}
use Rattle.http_values.specs.Quality.{IsQualityText, ArePlaces, digit, places_thousandths, shortest, quality_text}
use Rattle.http_values.proofs.QualityLemmas.{whole_is_quality, pointed_is_quality}

is_digit_of : (d : ℕ) → d < 10 → IsTrue (is_ascii_digit (48 + d))
is_digit_of d h = grind (arith, nat_tests)

both : (x y : Bool) → IsTrue x → IsTrue y → IsTrue (x && y)
both true y _ q = q
both false y p _ = cc (p)

one_digit : (a : ℕ) → a < 10 → IsTrue (list_all is_ascii_digit ((48 + a) ∷ []))
one_digit a la = both (is_ascii_digit (48 + a)) true (is_digit_of a la) refl

two_digits : (a b : ℕ) → a < 10 → b < 10 → IsTrue (list_all is_ascii_digit ((48 + a) ∷ (48 + b) ∷ []))
two_digits a b la lb = both (is_ascii_digit (48 + a)) _ (is_digit_of a la) (one_digit b lb)

three_digits : (a b c : ℕ) → a < 10 → b < 10 → c < 10 → IsTrue (list_all is_ascii_digit ((48 + a) ∷ (48 + b) ∷ (48 + c) ∷ []))
three_digits a b c la lb lc = both (is_ascii_digit (48 + a)) _ (is_digit_of a la) (two_digits b c lb lc)

-- the digits that are left, by whether the last and the one before are zeros
shortest_by : (a b c : ℕ) (y z : Bool) → a < 10 → b < 10 → c < 10 → (y ≡ true → b ≡ 0) → (z ≡ true → c ≡ 0)
    → let text = cond z (cond y ((48 + a) ∷ []) ((48 + a) ∷ (48 + b) ∷ [])) ((48 + a) ∷ (48 + b) ∷ (48 + c) ∷ []) in
    ArePlaces text × (places_thousandths text ≡ a * 100 + b * 10 + c)
shortest_by a b c true true la lb lc no_b no_c =
    let e = no_b refl in let f = no_c refl in ((one_digit a la, omega arith), omega arith)
shortest_by a b c false true la lb lc no_b no_c =
    let f = no_c refl in ((two_digits a b la lb, omega arith), omega arith)
shortest_by a b c y false la lb lc no_b no_c = ((three_digits a b c la lb lc, omega arith), omega arith)

zero_from : (b : ℕ) → (48 + b == 48) ≡ true → b ≡ 0
zero_from b e = grind (arith, nat_tests)

-- the digits without the zeros at their end say the same
shortest_says : (a b c : ℕ) → a < 10 → b < 10 → c < 10
    → ArePlaces (shortest (48 + a) (48 + b) (48 + c)) × (places_thousandths (shortest (48 + a) (48 + b) (48 + c)) ≡ a * 100 + b * 10 + c)
shortest_says a b c la lb lc = shortest_by a b c (48 + b == 48) (48 + c == 48) la lb lc (zero_from b) (zero_from c)

thousandths_of : (n : ℕ) → 0 < n → n < 1000 → (n / 100) * 100 + (n / 10 % 10) * 10 + n % 10 ≡ n
thousandths_of n low high = omega arith

-- what a quality between zero and one prints
between : (n : ℕ) → 0 < n → n < 1000
    → IsQualityText (48 ∷ 46 ∷ shortest (48 + n / 100) (48 + n / 10 % 10) (48 + n % 10)) n
between n low high =
    let s = shortest_says (n / 100) (n / 10 % 10) (n % 10) (omega arith) (omega arith) (omega arith) in
    let places = shortest (48 + n / 100) (48 + n / 10 % 10) (48 + n % 10) in
    let e : places_thousandths places ≡ n = s.1 ∙ thousandths_of n low high in
    let f : digit 48 * 1000 + places_thousandths places ≡ n = omega (arith, e) in
    let P : ℕ → Type 0 = λ m. IsQualityText (48 ∷ 46 ∷ places) m in
    subst P f (pointed_is_quality 48 places refl s.0 (omega (arith, f)))

printed_by : (n : ℕ) (x y : Bool) → n ≤ 1000 → (x ≡ true → n ≡ 0) → (x ≡ false → 0 < n) → (y ≡ true → n ≡ 1000) → (y ≡ false → n < 1000)
    → IsQualityText (cond x (48 ∷ []) (cond y (49 ∷ []) (48 ∷ 46 ∷ shortest (48 + n / 100) (48 + n / 10 % 10) (48 + n % 10)))) n
printed_by n true y most zero _ _ _ =
    let P : ℕ → Type 0 = λ m. IsQualityText (48 ∷ []) m in subst P (sym (zero refl)) (whole_is_quality 48 refl (lit≤ tt))
printed_by n false true most _ _ one _ =
    let P : ℕ → Type 0 = λ m. IsQualityText (49 ∷ []) m in subst P (sym (one refl)) (whole_is_quality 49 refl (lit≤ tt))
printed_by n false false most _ low _ high = between n (low refl) (high refl)

equal_from : (n k : ℕ) → (n == k) ≡ true → n ≡ k
equal_from n k e = grind (arith, nat_tests)

above_from : (n : ℕ) → (n == 0) ≡ false → 0 < n
above_from n e = grind (arith, nat_tests)

below_from : (n : ℕ) → n ≤ 1000 → (n == 1000) ≡ false → n < 1000
below_from n most e = grind (arith, nat_tests)

-- what a quality prints is the text of it
pub printed_is_read : (n : ℕ) → n ≤ 1000 → IsQualityText (quality_text n) n
printed_is_read n most =
    printed_by n (n == 0) (n == 1000) most (equal_from n 0) (above_from n) (equal_from n 1000) (below_from n most)
