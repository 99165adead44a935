use Rattle.model_client.proofs.Left.{step_leaves, trace_leaves}
use Rattle.model_client.proofs.machine_laws.bytes_are_read_in_order.Goals as goal

pub returns-clause-one_event : goal.returns-clause-one_event
returns-clause-one_event c = step_leaves

pub returns-clause-all : goal.returns-clause-all
returns-clause-all c = trace_leaves
