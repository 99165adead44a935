use Rattle.model_state.proofs.DeadlineLemmas.{deadline_of_past, deadline_of_trace}
use Rattle.model_state.proofs.deadline.deadline_stands.Goals as goal

pub returns-clause-of_a_past : goal.returns-clause-of_a_past
returns-clause-of_a_past c = deadline_of_past

pub returns-clause-of_a_trace : goal.returns-clause-of_a_trace
returns-clause-of_a_trace c = deadline_of_trace
