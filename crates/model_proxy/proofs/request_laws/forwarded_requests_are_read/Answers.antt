use Rattle.model_proxy.proofs.SentRequests.{forwarded_are_read, forwarded_alone}
use Rattle.model_proxy.proofs.request_laws.forwarded_requests_are_read.Goals as goal

pub returns-clause-there_are : goal.returns-clause-there_are
returns-clause-there_are c = forwarded_are_read

pub returns-clause-no_others : goal.returns-clause-no_others
returns-clause-no_others c = forwarded_alone
