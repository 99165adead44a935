use Rattle.http_values.proofs.PrintedExtended.{printed_is_read}
use Rattle.http_values.proofs.shared.printed.printed_extended_value_is_read.Goals as goal

pub returns : goal.returns
returns c = printed_is_read
