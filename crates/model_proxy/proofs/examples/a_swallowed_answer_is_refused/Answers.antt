use Rattle.model_proxy.proofs.WrongForwarders.{swallowed}
use Rattle.model_proxy.proofs.examples.a_swallowed_answer_is_refused.Goals as goal

pub returns : goal.returns
returns c = swallowed
