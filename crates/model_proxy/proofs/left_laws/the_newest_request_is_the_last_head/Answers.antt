use Rattle.model_proxy.proofs.Wants.{asked_by}
use Rattle.model_proxy.proofs.left_laws.the_newest_request_is_the_last_head.Goals as goal

pub returns : goal.returns
returns c = asked_by
