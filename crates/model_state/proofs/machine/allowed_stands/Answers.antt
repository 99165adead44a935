use Rattle.model_state.proofs.Stands.{allowed_stands, allowed_of_trace, misplaced_of_trace}
use Rattle.model_state.proofs.machine.allowed_stands.Goals as goal

pub returns-clause-of_a_past : goal.returns-clause-of_a_past
returns-clause-of_a_past c = allowed_stands

pub returns-clause-allowed : goal.returns-clause-allowed
returns-clause-allowed c = allowed_of_trace

pub returns-clause-misplaced : goal.returns-clause-misplaced
returns-clause-misplaced c = misplaced_of_trace
