use Rattle.model_h1.proofs.Laws.{chunked_unique}
use Rattle.model_h1.proofs.chunked.chunked_is_unique.Goals as goal

pub returns-clause-verdict : goal.returns-clause-verdict
returns-clause-verdict c = λ bytes a b runs runs' x y. (chunked_unique bytes a b runs runs' x y).0

pub returns-clause-places : goal.returns-clause-places
returns-clause-places c = λ bytes a b runs runs' x y. (chunked_unique bytes a b runs runs' x y).1
