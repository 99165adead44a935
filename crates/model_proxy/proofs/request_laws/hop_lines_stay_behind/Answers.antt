use Rattle.model_proxy.proofs.ForwardedLines.{hops_behind}
use Rattle.model_proxy.proofs.request_laws.hop_lines_stay_behind.Goals as goal

pub returns : goal.returns
returns c = hops_behind
