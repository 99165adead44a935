use Rattle.model_state.proofs.Stands.{table_steps}
use Rattle.model_state.proofs.machine.table_steps.Goals as goal

pub returns : goal.returns
returns c = table_steps
