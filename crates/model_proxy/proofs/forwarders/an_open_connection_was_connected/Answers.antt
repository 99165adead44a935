use Rattle.std.proofs.Common.{refl, Some}
use Rattle.model_proxy.proofs.Places.{was_connected}
use Rattle.model_proxy.proofs.forwarders.an_open_connection_was_connected.Goals as goal

pub returns : goal.returns
returns c edge setting history bytes trace xs x = was_connected edge setting history (Some bytes) trace xs x refl
