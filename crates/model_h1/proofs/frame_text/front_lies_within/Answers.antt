use Rattle.model_h1.proofs.FrameLemmas.{whole_fits}
use Rattle.model_h1.proofs.frame_text.front_lies_within.Goals as goal

pub returns : goal.returns
returns c = whole_fits
