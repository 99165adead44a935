use Rattle.model_client.proofs.OneStep.{one_outcome, one_state}
use Rattle.model_client.proofs.machine_laws.one_step.Goals as goal

pub returns-clause-outcome : goal.returns-clause-outcome
returns-clause-outcome c = one_outcome

pub returns-clause-state : goal.returns-clause-state
returns-clause-state c = one_state
