use Rattle.model_h1.proofs.FrameLemmas.{breaks_stays}
use Rattle.model_h1.proofs.frame_text.front_error_stays.Goals as goal

pub returns : goal.returns
returns c = breaks_stays
