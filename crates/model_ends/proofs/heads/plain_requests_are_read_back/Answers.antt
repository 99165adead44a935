use Rattle.model_ends.proofs.RequestText.{request_reads_back}
use Rattle.model_ends.proofs.heads.plain_requests_are_read_back.Goals as goal

pub returns : goal.returns
returns c = request_reads_back
