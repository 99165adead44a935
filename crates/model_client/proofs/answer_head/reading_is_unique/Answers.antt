use Rattle.model_client.proofs.AnswerLemmas.{answer_within_unique}
use Rattle.model_client.proofs.answer_head.reading_is_unique.Goals as goal

pub returns : goal.returns
returns c = answer_within_unique
