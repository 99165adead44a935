use Rattle.model_proxy.proofs.Given.{given_is_read}
use Rattle.model_proxy.proofs.trace_laws.servers_read_the_requests.Goals as goal

pub returns : goal.returns
returns c = given_is_read
