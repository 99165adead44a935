use Rattle.model_state.proofs.DeadlineLemmas.{tick_at_deadline}
use Rattle.model_state.proofs.deadline.tick_at_the_deadline_is_allowed.Goals as goal

pub returns : goal.returns
returns c = tick_at_deadline
