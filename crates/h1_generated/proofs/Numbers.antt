-- What is read of the digits of a number.
use Rattle.std.proofs.Common.{◌≡◌, ℕ, ◌^◌, ◌<◌, true, false, ◌&&◌, List, [], ◌∷◌, length, reverse, refl, sym, ap, ◌∙◌, subst, arith, le-leb, lt-ltb}
use Rattle.std.specs.Prelude.{IsTrue, Some, None, decimal, nat_lt}
use Rattle.std.specs.List.{list_all}
use Rattle.std.specs.Char.{is_ascii_digit}
use Rattle.std.specs.Str.Parse.{AllDigits, digits_value}
use Rattle.std.proofs.lemmas.Bool.{cond-true, cond-false}
use Rattle.std.proofs.lemmas.Bool.Decides.{nat_tests}
use Rattle.std.proofs.lemmas.Fmt.{decimal_is_IsNumeral}
use Rattle.std.proofs.lemmas.List.{reverse-reverse}
use Rattle.std.proofs.lemmas.List.Elements.{All-nil, All-cons, All-head}
use Rattle.std.proofs.lemmas.Str.Parse.{digit_from_value}
use Rattle.httparse.specs.Grammar.{AllPass, is_ows, skip_ows, trim_ows}
use Rattle.httparse.proofs.TrimLemmas.{AllPass-reverse}
use Rattle.model_h1.specs.LengthTable.{length_value}

-- each byte passes the test for a digit
passes : (ds : List ℕ) → AllDigits 10 ds → (AllPass is_ascii_digit ds) × (list_all is_ascii_digit ds ≡ true)
passes [] all = (All-nil (λ b. IsTrue (is_ascii_digit b)), refl)
passes (c ∷ cs) all =
    let d = digit_from_value c all.0 in
    let here : is_ascii_digit c ≡ true = λ i. le-leb 48 c d.0 i && le-leb c 57 d.1 i in
    let rest = passes cs all.1 in
    (All-cons (λ b. IsTrue (is_ascii_digit b)) c cs here rest.0, λ i. here i && rest.1 i)

digit_no_space : (b : ℕ) → is_ascii_digit b ≡ true → is_ows b ≡ false
digit_no_space b digit = grind (arith, nat_tests)

-- no white space stands in front of digits
skips : (ds : List ℕ) → AllPass is_ascii_digit ds → skip_ows ds ≡ ds
skips [] pass = refl
skips (b ∷ ds) pass = cond-false (is_ows b) _ _ (digit_no_space b (All-head (λ x. IsTrue (is_ascii_digit x)) b ds pass))

-- nor around them
trims : (ds : List ℕ) → AllPass is_ascii_digit ds → trim_ows ds ≡ ds
unfolding trim_ows
trims ds pass =
    ap (λ (l : List ℕ). reverse (skip_ows (reverse l))) (skips ds pass)
    ∙ ap reverse (skips (reverse ds) (AllPass-reverse is_ascii_digit ds pass)) ∙ reverse-reverse ds

pub digits_pass : (n : ℕ) → n < 2 ^ 64 → AllPass is_ascii_digit (decimal n)
digits_pass n fits = (passes (decimal n) (decimal_is_IsNumeral n fits).0.1).0

-- a value is written behind a blank
pub blank_trimmed : (n : ℕ) → n < 2 ^ 64 → trim_ows (32 ∷ decimal n) ≡ decimal n
unfolding trim_ows
blank_trimmed n fits = trims (decimal n) (digits_pass n fits)

-- the length that digits state
pub length_stated : (n : ℕ) → n < 2 ^ 64 → length_value (trim_ows (decimal n)) ≡ Some n
length_stated n fits =
    let ds = decimal n in
    let numeral = decimal_is_IsNumeral n fits in
    let pass = passes ds numeral.0.1 in
    let below : digits_value 10 ds < 2 ^ 64 = subst (λ k. k < 2 ^ 64) (sym numeral.1) fits in
    let test : (nat_lt 0 (length ds) && list_all is_ascii_digit ds && nat_lt (digits_value 10 ds) (2 ^ 64)) ≡ true =
    λ i. lt-ltb 0 (length ds) numeral.0.0 i && pass.1 i && lt-ltb (digits_value 10 ds) (2 ^ 64) below i in
    ap length_value (trims ds pass.0) ∙ cond-true _ (Some (digits_value 10 ds)) None test ∙ ap Some numeral.1
