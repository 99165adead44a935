use Rattle.proxy.proofs.Forwarder.{is_forwarder}
use Rattle.proxy_loop.proofs.laws.is_a_forwarder.Goals as goal

pub returns : goal.returns
returns c = λ p had usable. is_forwarder had.history p had.ran usable
