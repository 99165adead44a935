use Rattle.std.proofs.Common.{refl}
use Rattle.model_h1.specs.FrameText.{front_frame, unmask}
use Rattle.model_h1.proofs.frame_examples.length_in_a_longer_form.Goals as goal

pub returns : goal.returns
unfolding front_frame unmask
returns c = record { two_bytes = refl; eight_bytes = refl }
