use Rattle.model_state.proofs.OneStep.{outcome_one, state_one}
use Rattle.model_state.proofs.machine.one_step.Goals as goal

pub returns-clause-outcome : goal.returns-clause-outcome
returns-clause-outcome c = outcome_one

pub returns-clause-state : goal.returns-clause-state
returns-clause-state c = state_one
