use Rattle.model_h1.proofs.DeadlineLemmas.{deadline_there, deadline_one}
use Rattle.model_h1.proofs.deadline.deadline_is_decided.Goals as goal

pub returns-clause-there : goal.returns-clause-there
returns-clause-there c = deadline_there

pub returns-clause-one : goal.returns-clause-one
returns-clause-one c = deadline_one
