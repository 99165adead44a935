use Rattle.model_proxy.proofs.Given.{given_and_waiting, given_begins}
use Rattle.model_proxy.proofs.trace_laws.servers_get_the_requests.Goals as goal

pub returns : goal.returns
returns c = record { waiting = given_and_waiting; closed = given_begins }
