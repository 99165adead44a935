use Rattle.model_h1.proofs.Agreement.{runs_hold}
use Rattle.model_h1.proofs.chunked.runs_hold_the_bytes.Goals as goal

pub returns : goal.returns
returns c = runs_hold
