use Rattle.http_values.proofs.DateLemmas.{printed_is_read}
use Rattle.http_values.proofs.shared.http_date.printed_date_is_read.Goals as goal

pub returns : goal.returns
returns c = printed_is_read
