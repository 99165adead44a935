use Rattle.model_proxy.proofs.Given.{read_to_their_own}
use Rattle.model_proxy.proofs.trace_laws.answers_are_read_to_their_requests.Goals as goal

pub returns : goal.returns
returns c = read_to_their_own
