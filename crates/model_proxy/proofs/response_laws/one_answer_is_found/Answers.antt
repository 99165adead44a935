use Rattle.model_proxy.proofs.FoundAnswers.{answer_unique}
use Rattle.model_proxy.proofs.response_laws.one_answer_is_found.Goals as goal

pub returns : goal.returns
returns c = answer_unique
