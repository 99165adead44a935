use Rattle.std.proofs.Common.{true, refl}
use Rattle.model_h1.specs.Sums.{taken, accepted, request, since_head, answered, answer_len}
use Rattle.model_h1.specs.Past.{place_behind, pulled_to}
use Rattle.model_h1.specs.Closing.{told, closing}
use Rattle.model_h1.specs.Allowed.{is_allowed}
use Rattle.model_h1.specs.OutcomeTable.{outcome_of}
use Rattle.model_h1.proofs.ExampleLemmas.{nothing_behind}
use Rattle.model_h1.proofs.ExampleParses.{get_parsed}
use Rattle.model_h1.proofs.ExampleSteps.{get_taken, happens}
use Rattle.model_h1.proofs.closing_examples.input_has_ended.Goals as goal

pub returns-clause-at_once : goal.returns-clause-at_once
unfolding taken accepted request since_head answered answer_len told closing is_allowed outcome_of
returns-clause-at_once c = (happens _ _ (nothing_behind, refl, refl, tt), refl)

pub returns-clause-behind_a_request : goal.returns-clause-behind_a_request
unfolding taken accepted request since_head answered answer_len told closing is_allowed outcome_of pulled_to place_behind
returns-clause-behind_a_request c = (
  happens _ _ (get_parsed true, refl, refl, (get_parsed true, refl, refl, (get_parsed true, refl, refl, get_taken))),
  refl,
  refl,
  refl,
)
