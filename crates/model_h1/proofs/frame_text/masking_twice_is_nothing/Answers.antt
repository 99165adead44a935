use Rattle.model_h1.proofs.FrameWritten.{masked_twice}
use Rattle.model_h1.proofs.frame_text.masking_twice_is_nothing.Goals as goal

pub returns : goal.returns
returns c = masked_twice
