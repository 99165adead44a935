use Rattle.ws_frames.proofs.MaskLemmas.{unmask_append}
use Rattle.ws_frames.proofs.laws.masking_goes_on.Goals as goal

pub returns : goal.returns
returns c = unmask_append
