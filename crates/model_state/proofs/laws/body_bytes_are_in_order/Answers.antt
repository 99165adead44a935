use Rattle.model_state.proofs.Order.{runs_in_order, waiting_in_order}
use Rattle.model_state.proofs.laws.body_bytes_are_in_order.Goals as goal

pub returns-clause-all : goal.returns-clause-all
returns-clause-all c = runs_in_order

pub returns-clause-waiting : goal.returns-clause-waiting
returns-clause-waiting c = waiting_in_order
