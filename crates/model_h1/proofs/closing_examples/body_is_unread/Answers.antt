use Rattle.std.proofs.Common.{refl}
use Rattle.model_h1.specs.Sums.{taken, accepted, request, since_head, answered, answer_len}
use Rattle.model_h1.specs.Closing.{told, closing}
use Rattle.model_h1.specs.Allowed.{is_allowed}
use Rattle.model_h1.specs.OutcomeTable.{outcome_of}
use Rattle.model_h1.proofs.ExampleParses.{post_parsed}
use Rattle.model_h1.proofs.ExampleSteps.{happens, post_asked}
use Rattle.model_h1.proofs.closing_examples.body_is_unread.Goals as goal

pub returns : goal.returns
unfolding taken accepted request since_head answered answer_len told closing is_allowed outcome_of
returns c = (happens _ _ (post_parsed, refl, refl, (post_parsed, refl, refl, post_asked)), refl, refl)
