use Rattle.model_h1.proofs.PastLemmas.{outcome_unique}
use Rattle.model_h1.proofs.trace.outcome_is_unique.Goals as goal

pub returns : goal.returns
returns c = outcome_unique
