use Rattle.model_ends.proofs.Framing.{length_read}
use Rattle.model_ends.proofs.heads.lengths_are_read_back.Goals as goal

pub returns : goal.returns
returns c = length_read
