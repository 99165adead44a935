use Rattle.model_proxy.proofs.FoundAnswers.{answer_found}
use Rattle.model_proxy.proofs.response_laws.an_answer_is_always_found.Goals as goal

pub returns : goal.returns
returns c = answer_found
