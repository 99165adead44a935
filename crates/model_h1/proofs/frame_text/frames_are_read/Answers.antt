use Rattle.model_h1.proofs.FrameLemmas.{frames_read}
use Rattle.model_h1.proofs.frame_text.frames_are_read.Goals as goal

pub returns : goal.returns
returns c = frames_read
