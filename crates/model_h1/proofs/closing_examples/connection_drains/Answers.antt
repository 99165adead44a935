use Rattle.std.proofs.Common.{false, refl}
use Rattle.model_h1.specs.Sums.{taken, accepted, request, since_head, answered, answer_len}
use Rattle.model_h1.specs.Closing.{told, closing}
use Rattle.model_h1.specs.Allowed.{is_allowed}
use Rattle.model_h1.specs.OutcomeTable.{outcome_of}
use Rattle.model_h1.proofs.ExampleLemmas.{nothing_behind}
use Rattle.model_h1.proofs.ExampleParses.{get_parsed}
use Rattle.model_h1.proofs.ExampleSteps.{get_answered, get_asked, happens}
use Rattle.model_h1.proofs.closing_examples.connection_drains.Goals as goal

pub returns-clause-at_once : goal.returns-clause-at_once
unfolding taken accepted request since_head answered answer_len told closing is_allowed outcome_of
returns-clause-at_once c = (happens _ _ (nothing_behind, refl, refl, tt), refl)

pub returns-clause-while_open : goal.returns-clause-while_open
unfolding taken accepted request since_head answered answer_len told closing is_allowed outcome_of
returns-clause-while_open c = (happens _ _ (get_parsed false, refl, refl, (get_parsed false, refl, refl, get_asked)), refl, refl)

pub returns-clause-behind_an_answer : goal.returns-clause-behind_an_answer
unfolding taken accepted request since_head answered answer_len told closing is_allowed outcome_of
returns-clause-behind_an_answer c = (happens _ _ (get_parsed false, refl, refl, get_answered), refl)
