use Rattle.model_state.proofs.Stands.{step_outcome, step_state}
use Rattle.model_state.proofs.machine.step_stands.Goals as goal

pub returns-clause-outcome : goal.returns-clause-outcome
returns-clause-outcome c = step_outcome

pub returns-clause-state : goal.returns-clause-state
returns-clause-state c = step_state
