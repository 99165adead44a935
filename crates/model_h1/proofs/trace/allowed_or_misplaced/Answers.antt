use Rattle.model_h1.proofs.EventLemmas.{allowed_or_not, not_allowed_and_misplaced}
use Rattle.model_h1.proofs.trace.allowed_or_misplaced.Goals as goal

pub returns-clause-one : goal.returns-clause-one
returns-clause-one c = allowed_or_not

pub returns-clause-not_both : goal.returns-clause-not_both
returns-clause-not_both c = not_allowed_and_misplaced
