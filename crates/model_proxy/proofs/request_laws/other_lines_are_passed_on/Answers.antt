use Rattle.model_proxy.proofs.ForwardedLines.{passed_on}
use Rattle.model_proxy.proofs.request_laws.other_lines_are_passed_on.Goals as goal

pub returns : goal.returns
returns c = passed_on
