use Rattle.model_proxy.proofs.SentRequests.{forwarded_so_far}
use Rattle.model_proxy.proofs.request_laws.forwarded_requests_are_read_so_far.Goals as goal

pub returns : goal.returns
returns c = forwarded_so_far
