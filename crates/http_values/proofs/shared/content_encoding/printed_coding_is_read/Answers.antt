use Rattle.http_values.proofs.CodingLemmas.{printed_is_read}
use Rattle.http_values.proofs.shared.content_encoding.printed_coding_is_read.Goals as goal

pub returns : goal.returns
returns c = printed_is_read
