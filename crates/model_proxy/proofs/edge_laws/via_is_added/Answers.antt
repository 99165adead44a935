use Rattle.model_proxy.proofs.ForwardedLines.{via_added}
use Rattle.model_proxy.proofs.edge_laws.via_is_added.Goals as goal

pub returns : goal.returns
returns c = via_added
