use Rattle.model_client.proofs.AnswerGrowth.{answers_stay}
use Rattle.model_client.proofs.answers.answers_stay.Goals as goal

pub returns : goal.returns
returns c = answers_stay
