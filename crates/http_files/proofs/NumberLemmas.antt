-- The number that a text of digits writes, where it fits and where it doesn't.
use Rattle.std.proofs.Common.{arith, rules, ◌≡◌, ◌<◌, ◌-◌, ◌^◌, ℕ, List, true, false, Bool, Result, Ok, Err, Some, None, refl, true≢false, ◌≤◌, ap, sym, ◌∙◌, cond}
use Rattle.std.proofs.Math.Nat.{min-eq_left, min-eq_right}
use Rattle.std.specs.Prelude.{min, not, ◌&&◌, ◌==◌}
use Rattle.std.specs.Char.{is_ascii_digit}
use Rattle.std.specs.List.{list_all}
use Rattle.std.specs.Result.{result_unwrap_or}
use Rattle.std.specs.Str.Parse.{ParsesUnsigned}
use Rattle.std.proofs.lemmas.Str.Parse.{IsNumeralModel, numerals_by_fold, parse_digits}
use Rattle.std.proofs.lemmas.Bool.Decides.{nat_tests}
use Rattle.http_files.specs.Ranges.{read_on, is_number, place_in}

pub digits : IsNumeralModel (λ ds. list_all is_ascii_digit ds ≡ true) (read_on 0)
digits = numerals_by_fold _ (search rules) read_on (search rules)

and_left : (a b : Bool) → (a && b) ≡ true → a ≡ true
and_left true b is = refl
and_left false b is = is

and_right : (a b : Bool) → (a && b) ≡ true → b ≡ true
and_right true b is = is
and_right false b is = absurd (true≢false (sym is))

some_of : (n : ℕ) → not (n == 0) ≡ true → 0 < n
some_of n is = grind (arith, nat_tests)

large : (v : ℕ) → (v < 2 ^ 64 → ⊥) → 2 ^ 64 - 1 ≤ v
large v not_small = omega (arith, not_small)

clipped : (text : List ℕ) (n : ℕ) → is_number text ≡ true → n ≡ min (read_on 0 text) (2 ^ 64 - 1) → Some n ≡ place_in text
clipped text n is same = ap (λ (k : ℕ). Some k) same ∙ sym (ap (λ (b : Bool). cond b (Some (min (read_on 0 text) (2 ^ 64 - 1))) None) is)

pub place_is : (E : Type 0) (text : List ℕ) (r : Result ℕ E) → ParsesUnsigned 64 10 text r → is_number text ≡ true → Some (result_unwrap_or r (2 ^ 64 - 1)) ≡ place_in text
place_is E text (Ok x) h is =
    let o = parse_digits digits {E = E} 64 text (Ok x) h (and_right _ _ is) in
    clipped text x is (o.1 ∙ sym (min-eq_left (omega (arith, o.0.1))))
place_is E text (Err e) h is =
    let o = parse_digits digits {E = E} 64 text (Err e) h (and_right _ _ is) in
    clipped text (2 ^ 64 - 1) is (sym (min-eq_right (large (read_on 0 text) (λ small. o (some_of _ (and_left _ _ is), small)))))
