use Rattle.model_client.proofs.Order.{in_order}
use Rattle.model_client.proofs.machine_laws.answers_come_in_order.Goals as goal

pub returns-clause-waiting : goal.returns-clause-waiting
returns-clause-waiting c = λ setting trace k x. (in_order setting trace k x).0

pub returns-clause-no_more : goal.returns-clause-no_more
returns-clause-no_more c = λ setting trace k x. (in_order setting trace k x).1
