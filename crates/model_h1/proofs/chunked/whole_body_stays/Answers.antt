use Rattle.model_h1.proofs.Laws.{whole_stays}
use Rattle.model_h1.proofs.chunked.whole_body_stays.Goals as goal

pub returns : goal.returns
returns c = whole_stays
