use Rattle.model_client.proofs.AnswerMoved.{answers_of_rest, answers_are_of_rest}
use Rattle.model_client.proofs.answers.answers_are_local.Goals as goal

pub returns-clause-read : goal.returns-clause-read
returns-clause-read c = answers_of_rest

pub returns-clause-no_others : goal.returns-clause-no_others
returns-clause-no_others c = answers_are_of_rest
