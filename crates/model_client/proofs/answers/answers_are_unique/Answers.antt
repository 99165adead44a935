use Rattle.model_client.proofs.AnswerLemmas.{answers_unique}
use Rattle.model_client.proofs.answers.answers_are_unique.Goals as goal

pub returns : goal.returns
returns c waits r = answers_unique waits r 0
