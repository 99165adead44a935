use Rattle.model_proxy.proofs.Waited.{pending_stays, pending_lacks}
use Rattle.model_proxy.proofs.left_laws.a_server_is_waited_for.Goals as goal

pub returns : goal.returns
returns c = record { next = pending_stays; pull = pending_lacks }
