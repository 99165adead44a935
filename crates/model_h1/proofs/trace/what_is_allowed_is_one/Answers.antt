use Rattle.model_h1.proofs.PastLemmas.{allowed_behind}
use Rattle.model_h1.proofs.trace.what_is_allowed_is_one.Goals as goal

pub returns : goal.returns
returns c = allowed_behind
