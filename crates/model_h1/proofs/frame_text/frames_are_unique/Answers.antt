use Rattle.model_h1.proofs.FrameLemmas.{frames_unique}
use Rattle.model_h1.proofs.frame_text.frames_are_unique.Goals as goal

pub returns : goal.returns
returns c = frames_unique
