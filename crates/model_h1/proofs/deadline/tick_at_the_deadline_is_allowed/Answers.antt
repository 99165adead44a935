use Rattle.model_h1.proofs.DeadlineLemmas.{allowed_of_trace}
use Rattle.model_h1.proofs.deadline.tick_at_the_deadline_is_allowed.Goals as goal

pub returns : goal.returns
returns c = allowed_of_trace
