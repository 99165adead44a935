use Rattle.model_h1.proofs.FrameLemmas.{frames_broken}
use Rattle.model_h1.proofs.frame_text.broken_frames_stay.Goals as goal

pub returns : goal.returns
returns c = frames_broken
