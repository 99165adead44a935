use Rattle.http_map.proofs.NumberLemmas.{IsFieldValue-decimal}
use Rattle.http_map.proofs.into_value.value_of_u64.Goals as goal

pub returns-in_err-from_u64-clause-valid : goal.returns-in_err-from_u64-clause-valid
returns-in_err-from_u64-clause-valid c = IsFieldValue-decimal c.args.num c.ranges.num.fits
