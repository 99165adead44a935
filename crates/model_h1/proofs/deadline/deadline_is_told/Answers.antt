use Rattle.model_h1.proofs.DeadlineLemmas.{told_of_trace}
use Rattle.model_h1.proofs.deadline.deadline_is_told.Goals as goal

pub returns : goal.returns
returns c = told_of_trace
