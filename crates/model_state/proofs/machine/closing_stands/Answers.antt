use Rattle.model_state.proofs.Stands.{closing_stands, closing_of_trace}
use Rattle.model_state.proofs.machine.closing_stands.Goals as goal

pub returns-clause-of_a_past : goal.returns-clause-of_a_past
returns-clause-of_a_past c = closing_stands

pub returns-clause-of_a_trace : goal.returns-clause-of_a_trace
returns-clause-of_a_trace c = closing_of_trace
