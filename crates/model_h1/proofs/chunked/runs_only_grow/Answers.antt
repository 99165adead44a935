use Rattle.model_h1.proofs.Laws.{runs_grow}
use Rattle.model_h1.proofs.chunked.runs_only_grow.Goals as goal

pub returns : goal.returns
returns c = runs_grow
