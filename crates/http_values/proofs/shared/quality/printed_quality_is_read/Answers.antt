use Rattle.http_values.proofs.PrintedQuality.{printed_is_read}
use Rattle.http_values.proofs.shared.quality.printed_quality_is_read.Goals as goal

pub returns : goal.returns
returns c = printed_is_read
