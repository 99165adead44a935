use Rattle.model_client.proofs.AnswerExistence.{answers_exist_from}
use Rattle.model_client.proofs.answers.answers_exist.Goals as goal

pub returns : goal.returns
returns c waits r = answers_exist_from waits r 0
