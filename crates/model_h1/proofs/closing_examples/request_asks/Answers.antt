use Rattle.std.proofs.Common.{refl}
use Rattle.model_h1.specs.Sums.{taken, accepted, request, since_head, answered, answer_len}
use Rattle.model_h1.specs.Closing.{told, closing}
use Rattle.model_h1.specs.Allowed.{is_allowed}
use Rattle.model_h1.specs.OutcomeTable.{outcome_of}
use Rattle.model_h1.proofs.ExampleParses.{close_parsed}
use Rattle.model_h1.proofs.ExampleSteps.{close_asked, happens}
use Rattle.model_h1.proofs.closing_examples.request_asks.Goals as goal

pub returns : goal.returns
unfolding taken accepted request since_head answered answer_len told closing is_allowed outcome_of
returns c = (happens _ _ (close_parsed, refl, refl, close_asked), refl, refl)
