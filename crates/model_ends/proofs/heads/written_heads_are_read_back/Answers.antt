use Rattle.model_ends.proofs.WrittenHead.{reads_back}
use Rattle.model_ends.proofs.heads.written_heads_are_read_back.Goals as goal

pub returns : goal.returns
returns c = reads_back
