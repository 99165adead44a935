use Rattle.model_proxy.proofs.ForwardedLines.{one_host}
use Rattle.model_proxy.proofs.edge_laws.one_host_is_named.Goals as goal

pub returns : goal.returns
returns c = one_host
