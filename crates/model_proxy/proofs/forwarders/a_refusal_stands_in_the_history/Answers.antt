use Rattle.model_proxy.proofs.Places.{none_refused}
use Rattle.model_proxy.proofs.forwarders.a_refusal_stands_in_the_history.Goals as goal

pub returns : goal.returns
returns c = none_refused
