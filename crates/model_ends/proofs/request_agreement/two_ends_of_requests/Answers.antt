use Rattle.std.proofs.Common.{map}
use Rattle.model_ends.specs.SentRequest.{sent_request}
use Rattle.model_ends.proofs.GivenRequests.{each_asked}
use Rattle.model_ends.proofs.SentRequests.{asked_is_served, asked_alone}
use Rattle.model_ends.proofs.request_agreement.two_ends_of_requests.Goals as goal

pub returns-clause-there_are : goal.returns-clause-there_are
returns-clause-there_are c i gs plain is = asked_is_served i (map sent_request gs) is (each_asked i.hold_size gs plain)

pub returns-clause-no_others : goal.returns-clause-no_others
returns-clause-no_others c i gs ms plain is = asked_alone i (map sent_request gs) ms is (each_asked i.hold_size gs plain)
