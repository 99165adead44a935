-- The digits of a chunk's size, from the last on.
use Rattle.std.proofs.Common.{◌≡◌, ℕ, zero, suc, ◌+◌, ◌-◌, ◌*◌, ◌/◌, ◌%◌, ◌^◌, ◌<◌, ◌≤◌, Bool, true, false, if◌then◌else◌, List, [], ◌∷◌, ◌++◌, length, drop, refl, sym, ap, ◌∙◌, subst, arith}
use Rattle.std.specs.Prelude.{◌==◌}
use Rattle.std.specs.Fmt.{digits, digits_onto, digit_glyph}
use Rattle.std.proofs.Math.Nat.{pow-suc}
use Rattle.std.proofs.Math.ListN.{set}
use Rattle.std.proofs.lemmas.Bool.{ne_eqb, eq-eqb}
use Rattle.std.proofs.lemmas.List.{drop-set}
use Rattle.httparse.specs.Ascii.{crlf_bytes}

onto_step : (last : Bool) (k n : ℕ) (acc more : List ℕ) → digits_onto k 16 true n acc ++ more ≡ digits_onto k 16 true n (acc ++ more)
    → (if last then acc else digits_onto k 16 true n acc) ++ more ≡ (if last then acc ++ more else digits_onto k 16 true n (acc ++ more))
onto_step true k n acc more rest = refl
onto_step false k n acc more rest = rest

-- what follows the digits
onto-append : (k n : ℕ) (acc more : List ℕ) → digits_onto k 16 true n acc ++ more ≡ digits_onto k 16 true n (acc ++ more)
onto-append zero n acc more = refl
onto-append (suc k) n acc more =
    onto_step (n / 16 == 0) k (n / 16) (digit_glyph true (n % 16) ∷ acc) more (onto-append k (n / 16) (digit_glyph true (n % 16) ∷ acc) more)

-- all digits
pub digits-onto : (n : ℕ) (more : List ℕ) → digits_onto 64 16 true n more ≡ digits 16 true n ++ more
unfolding digits
digits-onto n more = sym (onto-append 64 n [] more)

-- one digit more in front of those that are there
pub onto-more : (k n : ℕ) (acc : List ℕ) → 16 ≤ n → digits_onto (suc k) 16 true n acc ≡ digits_onto k 16 true (n / 16) (digit_glyph true (n % 16) ∷ acc)
onto-more k n acc large =
    ap (λ (b : Bool). if b then digit_glyph true (n % 16) ∷ acc else digits_onto k 16 true (n / 16) (digit_glyph true (n % 16) ∷ acc))
    (ne_eqb (n / 16) 0 (λ none. absurd (omega (arith, none))))

-- the first digit
pub onto-last : (k n : ℕ) (acc : List ℕ) → n < 16 → digits_onto (suc k) 16 true n acc ≡ digit_glyph true n ∷ acc
onto-last k n acc small =
    let none : n / 16 ≡ 0 = omega arith in
    let same : n % 16 ≡ n = omega arith in
    ap (λ (b : Bool). if b then digit_glyph true (n % 16) ∷ acc else digits_onto k 16 true (n / 16) (digit_glyph true (n % 16) ∷ acc)) (eq-eqb (n / 16) 0 none)
    ∙ ap (λ d. digit_glyph true d ∷ acc) same

-- a number of several digits has one digit less without its last one
pub fewer : (n at : ℕ) → 16 ≤ n → n < 16 ^ at → (1 < at) × (n / 16 < 16 ^ (at - 1))
fewer n zero large fits = absurd (omega (arith, large, fits))
fewer n (suc zero) large fits = absurd (omega (arith, large, fits))
fewer n (suc (suc k)) large fits =
    let more : 16 ^ suc (suc k) ≡ 16 ^ suc k * 16 = pow-suc 16 (suc k) in
    let same : suc (suc k) - 1 ≡ suc k = omega arith in
    (omega arith, let P : ℕ → Type 0 = λ m. n / 16 < 16 ^ m in subst P (sym same) (omega (arith, more, fits)))

-- the next digit, put in front
pub digit_more : (size left at d : ℕ) (line : List ℕ) → at - 1 < length line → 16 ≤ left → 0 < at → d ≡ digit_glyph true (left % 16)
    → digits_onto (48 + at) 16 true left (drop at line) ≡ digits_onto 64 16 true size crlf_bytes
    → digits_onto (48 + (at - 1)) 16 true (left / 16) (drop (at - 1) (set line (at - 1) d)) ≡ digits_onto 64 16 true size crlf_bytes
digit_more size left at d line within large some digit so_far =
    let back : at - 1 + 1 ≡ at = omega arith in
    let count : suc (48 + (at - 1)) ≡ 48 + at = omega arith in
    ap (λ (acc : List ℕ). digits_onto (48 + (at - 1)) 16 true (left / 16) acc) (drop-set line (at - 1) d within ∙ (λ i. digit i ∷ drop (back i) line))
    ∙ sym (onto-more (48 + (at - 1)) left (drop at line) large)
    ∙ ap (λ k. digits_onto k 16 true left (drop at line)) count
    ∙ so_far

-- the last one, which is the first of the number
pub digit_last : (size left at d : ℕ) (line : List ℕ) → at - 1 < length line → left < 16 → 0 < at → d ≡ digit_glyph true left
    → digits_onto (48 + at) 16 true left (drop at line) ≡ digits_onto 64 16 true size crlf_bytes
    → drop (at - 1) (set line (at - 1) d) ≡ digits 16 true size ++ crlf_bytes
digit_last size left at d line within small some digit so_far =
    let back : at - 1 + 1 ≡ at = omega arith in
    let count : suc (48 + (at - 1)) ≡ 48 + at = omega arith in
    drop-set line (at - 1) d within ∙ (λ i. digit i ∷ drop (back i) line)
    ∙ sym (onto-last (48 + (at - 1)) left (drop at line) small)
    ∙ ap (λ k. digits_onto k 16 true left (drop at line)) count
    ∙ so_far
    ∙ digits-onto size crlf_bytes
