use Rattle.model_state.proofs.Stands.{a_step_is_there}
use Rattle.model_state.proofs.machine.a_step_is_there.Goals as goal

pub returns : goal.returns
returns c = a_step_is_there
