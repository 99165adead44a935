-- A number's digits may stand in a header value.
use Rattle.std.proofs.Common.{ℕ, ◌<◌, ◌^◌, List, [], ◌∷◌, decimal, IsTrue, arith}
use Rattle.std.proofs.lemmas.Bool.Decides.{nat_tests}
use Rattle.std.proofs.lemmas.List.Elements.{All-nil, All-cons}
use Rattle.std.proofs.lemmas.Fmt.{decimal_is_IsNumeral}
use Rattle.std.specs.Str.Parse.{AllDigits}
use Rattle.http_header.specs.Token.{is_value_byte}
use Rattle.http_header.specs.FieldValue.{IsFieldValue}

digits_fit : (bytes : List ℕ) → AllDigits 10 bytes → IsFieldValue bytes
digits_fit [] digits = All-nil (λ b. IsTrue (is_value_byte b))
digits_fit (b ∷ bytes) digits =
    let first : IsTrue (is_value_byte b) = grind (arith, nat_tests, digits.0) in
    All-cons (λ b. IsTrue (is_value_byte b)) b bytes first (digits_fit bytes digits.1)

pub IsFieldValue-decimal : (n : ℕ) → n < 2 ^ 64 → IsFieldValue (decimal n)
IsFieldValue-decimal n small = digits_fit (decimal n) (decimal_is_IsNumeral n small).0.1
