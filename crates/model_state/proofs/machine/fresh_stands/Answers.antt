use Rattle.model_state.proofs.Stands.{fresh_stands}
use Rattle.model_state.proofs.machine.fresh_stands.Goals as goal

pub returns : goal.returns
returns c = fresh_stands
