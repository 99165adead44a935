use Rattle.std.proofs.Common.{true, false, refl}
use Rattle.model_h1.specs.Sums.{taken, accepted, request, since_head, answered, answer_len}
use Rattle.model_h1.specs.Past.{place_behind, pulled_to}
use Rattle.model_h1.specs.Closing.{told, closing}
use Rattle.model_h1.specs.Allowed.{is_allowed}
use Rattle.model_h1.specs.OutcomeTable.{outcome_of}
use Rattle.model_h1.proofs.ExampleParses.{get_parsed}
use Rattle.model_h1.proofs.ExampleSteps.{happens}
use Rattle.model_h1.proofs.closing_examples.peer_sends_no_more.Goals as goal

pub returns : goal.returns
unfolding taken accepted request since_head answered answer_len told closing is_allowed outcome_of pulled_to place_behind
returns c = (happens _ _ (get_parsed true, refl, refl, (get_parsed false, refl, refl, tt)), refl)
