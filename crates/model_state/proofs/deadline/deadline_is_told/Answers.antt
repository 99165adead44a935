use Rattle.model_state.proofs.DeadlineLemmas.{tick_told}
use Rattle.model_state.proofs.deadline.deadline_is_told.Goals as goal

pub returns : goal.returns
returns c = tick_told
