use Rattle.std.proofs.Common.{ap}
use Rattle.httpdate.specs.Valid.{parts_secs}
use Rattle.httpdate.proofs.Theorems.{IsDateText_unique}
use Rattle.http_values.proofs.shared.http_date.http_date_is_unique.Goals as goal

pub returns : goal.returns
returns c = λ text a b h k. ap parts_secs (IsDateText_unique _ a.date b.date h.1 k.1)
