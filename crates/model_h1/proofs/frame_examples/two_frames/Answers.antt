use Rattle.std.proofs.Common.{refl}
use Rattle.model_h1.specs.FrameText.{front_frame, unmask}
use Rattle.model_h1.proofs.frame_examples.two_frames.Goals as goal

pub returns : goal.returns
unfolding front_frame unmask
returns c = (7, refl, refl, (6, refl, refl, refl))
