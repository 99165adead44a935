use Rattle.model_h1.proofs.Laws.{broken_stays}
use Rattle.model_h1.proofs.chunked.broken_body_stays.Goals as goal

pub returns : goal.returns
returns c = broken_stays
