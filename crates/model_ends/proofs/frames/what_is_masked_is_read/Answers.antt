use Rattle.model_ends.proofs.FrameMasked.{masked_back}
use Rattle.model_ends.proofs.frames.what_is_masked_is_read.Goals as goal

pub returns : goal.returns
returns c = masked_back
