use Rattle.std.proofs.Common.{arith}
use Rattle.std.proofs.lemmas.Int.{ints}
use Rattle.http_header.proofs.TokenLemmas.{IsFieldValue-signed_decimal}
use Rattle.http_map.proofs.into_value.value_of_i64.Goals as goal

pub returns-in_err-from_i64-clause-valid : goal.returns-in_err-from_i64-clause-valid
returns-in_err-from_i64-clause-valid c = IsFieldValue-signed_decimal c.args.num (omega (arith, ints))
