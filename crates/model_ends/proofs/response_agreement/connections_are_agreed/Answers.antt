use Rattle.model_client.specs.RequestText.{as_answer, asked_shape}
use Rattle.model_ends.proofs.ConnectionTypes.{connection_read, connection_agrees}
use Rattle.model_ends.proofs.response_agreement.connections_are_agreed.Goals as goal

pub returns-clause-answer : goal.returns-clause-answer
returns-clause-answer c = connection_agrees

pub returns-clause-request : goal.returns-clause-request
returns-clause-request c g = connection_read g.head.minor (as_answer g.head) (asked_shape g.size) g.size g.kind g.moment
