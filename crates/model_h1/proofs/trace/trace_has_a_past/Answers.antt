use Rattle.model_h1.proofs.PastExistence.{past_exists}
use Rattle.model_h1.proofs.trace.trace_has_a_past.Goals as goal

pub returns : goal.returns
returns c = past_exists
