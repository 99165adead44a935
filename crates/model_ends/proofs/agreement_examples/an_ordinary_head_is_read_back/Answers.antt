use Rattle.model_ends.proofs.OrdinaryHeads.{empty_back}
use Rattle.model_ends.proofs.agreement_examples.an_ordinary_head_is_read_back.Goals as goal

pub returns : goal.returns
returns c = empty_back
