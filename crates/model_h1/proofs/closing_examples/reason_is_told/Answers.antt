use Rattle.std.proofs.Common.{false, refl}
use Rattle.model_h1.specs.Sums.{taken, accepted, request, since_head, answered, answer_len}
use Rattle.model_h1.specs.Closing.{told, closing}
use Rattle.model_h1.specs.Allowed.{is_allowed}
use Rattle.model_h1.specs.OutcomeTable.{outcome_of}
use Rattle.model_h1.proofs.ExampleParses.{get_parsed}
use Rattle.model_h1.proofs.ExampleSteps.{get_asked, happens}
use Rattle.model_h1.proofs.closing_examples.reason_is_told.Goals as goal

pub returns : goal.returns
unfolding taken accepted request since_head answered answer_len told closing is_allowed outcome_of
returns c = (
  happens _ _ (get_parsed false, refl, refl, (get_parsed false, refl, refl, get_asked)),
  refl,
  refl,
  refl,
  refl,
)
