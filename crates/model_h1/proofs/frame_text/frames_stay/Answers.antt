use Rattle.model_h1.proofs.FrameLemmas.{frames_begin}
use Rattle.model_h1.proofs.frame_text.frames_stay.Goals as goal

pub returns : goal.returns
returns c = frames_begin
