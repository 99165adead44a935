use Rattle.model_ends.proofs.GivenRequests.{plain_asked}
use Rattle.model_ends.proofs.request_agreement.plain_requests_are_sent.Goals as goal

pub returns : goal.returns
returns c = plain_asked
