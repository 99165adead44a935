use Rattle.std.proofs.Common.{refl}
use Rattle.model_client.specs.LaxText.{unpadded}
use Rattle.model_client.proofs.answer_head.three_lines.Goals as goal

pub returns : goal.returns
unfolding unpadded
returns c = refl
