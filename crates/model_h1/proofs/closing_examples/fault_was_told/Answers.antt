use Rattle.std.proofs.Common.{refl}
use Rattle.model_h1.specs.Sums.{taken, accepted, request, since_head, answered, answer_len}
use Rattle.model_h1.specs.Past.{place_behind, pulled_to}
use Rattle.model_h1.specs.Closing.{told, closing}
use Rattle.model_h1.specs.Allowed.{is_allowed}
use Rattle.model_h1.specs.OutcomeTable.{outcome_of}
use Rattle.model_h1.proofs.ExampleParses.{begun_parsed, refused_parsed}
use Rattle.model_h1.proofs.ExampleSteps.{happens}
use Rattle.model_h1.proofs.closing_examples.fault_was_told.Goals as goal

pub returns-clause-malformed : goal.returns-clause-malformed
unfolding taken accepted request since_head answered answer_len told closing is_allowed outcome_of pulled_to place_behind
returns-clause-malformed c = (happens _ _ (refused_parsed, refl, refl, (refused_parsed, refl, refl, tt)), refl, refl)

pub returns-clause-too_large : goal.returns-clause-too_large
unfolding taken accepted request since_head answered answer_len told closing is_allowed outcome_of pulled_to place_behind
returns-clause-too_large c = (happens _ _ (begun_parsed, refl, refl, (begun_parsed, refl, refl, tt)), refl)
