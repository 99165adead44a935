use Rattle.model_client.proofs.Unpadding.{unpadded_head}
use Rattle.model_client.proofs.answer_head.blanks_are_left_out.Goals as goal

pub returns : goal.returns
returns c = unpadded_head
