use Rattle.model_h1.proofs.FrameLemmas.{whole_stays}
use Rattle.model_h1.proofs.frame_text.front_stays.Goals as goal

pub returns : goal.returns
returns c = whole_stays
