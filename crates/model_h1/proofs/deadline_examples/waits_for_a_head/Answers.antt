use Rattle.std.proofs.Common.{false, refl}
use Rattle.model_h1.specs.Sums.{taken, accepted, last_tick, first_tick, request, since_head, answered, answer_len}
use Rattle.model_h1.specs.Past.{place_behind, pulled_to}
use Rattle.model_h1.specs.Closing.{told, closing}
use Rattle.model_h1.specs.Allowed.{is_allowed}
use Rattle.model_h1.specs.OutcomeTable.{outcome_of}
use Rattle.model_h1.specs.Deadline.{deadline}
use Rattle.model_h1.proofs.ExampleLemmas.{nothing_behind}
use Rattle.model_h1.proofs.ExampleParses.{get_parsed}
use Rattle.model_h1.proofs.ExampleSteps.{happens}
use Rattle.model_h1.proofs.deadline_examples.waits_for_a_head.Goals as goal

pub returns : goal.returns
unfolding taken accepted request since_head answered answer_len told closing is_allowed outcome_of last_tick first_tick deadline pulled_to place_behind
returns c = (
  happens _ _ (get_parsed false, refl, refl, (nothing_behind, refl, refl, tt)),
  refl,
  refl,
  refl,
  happens _ _ (nothing_behind, refl, refl, tt),
  refl,
)
