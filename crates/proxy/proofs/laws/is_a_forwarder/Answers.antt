use Rattle.proxy.proofs.Forwarder.{is_forwarder}
use Rattle.proxy.proofs.laws.is_a_forwarder.Goals as goal

pub returns : goal.returns
returns c = is_forwarder
