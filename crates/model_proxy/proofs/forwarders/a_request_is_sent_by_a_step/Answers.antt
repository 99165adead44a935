use Rattle.model_proxy.proofs.Places.{sent_by}
use Rattle.model_proxy.proofs.forwarders.a_request_is_sent_by_a_step.Goals as goal

pub returns : goal.returns
returns c = sent_by
