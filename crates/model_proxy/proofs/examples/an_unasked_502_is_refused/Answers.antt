use Rattle.model_proxy.proofs.WrongForwarders.{unasked}
use Rattle.model_proxy.proofs.examples.an_unasked_502_is_refused.Goals as goal

pub returns : goal.returns
returns c = unasked
