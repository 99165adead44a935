-- A status from 200 on is no interim one.
use Rattle.std.proofs.Common.{◌≡◌, ℕ, ◌≤◌, false, arith}
use Rattle.std.proofs.lemmas.Bool.Decides.{nat_tests}
use Rattle.model_client.specs.AnswerParse.{is_interim}

pub not_interim : (status : ℕ) → 200 ≤ status → is_interim status ≡ false
not_interim status high = grind (arith, nat_tests)
