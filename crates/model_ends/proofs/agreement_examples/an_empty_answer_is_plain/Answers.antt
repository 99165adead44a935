use Rattle.std.proofs.Common.{refl}
use Rattle.model_h1.specs.AnswerText.{appended}
use Rattle.model_ends.proofs.OrdinaryHeads.{empty_plain}
use Rattle.model_ends.proofs.agreement_examples.an_empty_answer_is_plain.Goals as goal

pub returns : goal.returns
unfolding appended
returns c = (empty_plain, refl)
