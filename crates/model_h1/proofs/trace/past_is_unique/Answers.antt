use Rattle.model_h1.proofs.PastLemmas.{past_of_unique}
use Rattle.model_h1.proofs.trace.past_is_unique.Goals as goal

pub returns : goal.returns
returns c = past_of_unique
