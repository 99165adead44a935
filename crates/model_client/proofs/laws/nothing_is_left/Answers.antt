use Rattle.model_client.proofs.NothingLeft.{all_answers, all_bytes}
use Rattle.model_client.proofs.laws.nothing_is_left.Goals as goal

pub returns-clause-answers : goal.returns-clause-answers
returns-clause-answers c setting trace k next parse ran are allowed step = all_answers setting trace k next parse ran are allowed step

pub returns-clause-body : goal.returns-clause-body
returns-clause-body c setting trace k next parse ran are allowed step = all_bytes setting trace k next parse ran are allowed step
