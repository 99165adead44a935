use Rattle.model_client.proofs.AnswerDecisions.{answer_within_of}
use Rattle.model_client.proofs.answer_head.every_piece_is_read.Goals as goal

pub returns : goal.returns
returns c = answer_within_of
