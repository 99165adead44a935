use Rattle.std.proofs.Common.{map}
use Rattle.model_ends.specs.SentRequest.{sent_request}
use Rattle.model_ends.proofs.GivenRequests.{each_asked}
use Rattle.model_ends.proofs.BegunRequests.{begun_served}
use Rattle.model_ends.proofs.request_agreement.two_ends_of_requests_so_far.Goals as goal

pub returns : goal.returns
returns c i more gs ms plain is = begun_served i more (map sent_request gs) ms is (each_asked i.hold_size gs plain)
