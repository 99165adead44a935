use Rattle.model_proxy.proofs.GivenRequests.{given_are_read}
use Rattle.model_proxy.proofs.forwarders.servers_read_the_requests.Goals as goal

pub returns : goal.returns
returns c = given_are_read
