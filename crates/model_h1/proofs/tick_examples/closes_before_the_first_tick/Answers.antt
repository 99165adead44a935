use Rattle.std.proofs.Common.{false, refl}
use Rattle.std.specs.Fmt.{digits}
use Rattle.model_h1.specs.AnswerText.{year_at, month_at, date_of, appended, head_text}
use Rattle.model_h1.specs.Sums.{taken, written, accepted, last_tick, first_tick, request, since_head, answered, answer_len}
use Rattle.model_h1.specs.Past.{place_behind, pulled_to}
use Rattle.model_h1.specs.Text.{step_text, text}
use Rattle.model_h1.specs.Closing.{told, closing, closing_since}
use Rattle.model_h1.specs.Allowed.{is_allowed}
use Rattle.model_h1.specs.OutcomeTable.{outcome_of}
use Rattle.model_h1.proofs.ExampleParses.{get_parsed}
use Rattle.model_h1.proofs.ExampleSteps.{get_asked, happens}
use Rattle.model_h1.proofs.tick_examples.closes_before_the_first_tick.Goals as goal

pub returns : goal.returns
unfolding taken accepted request since_head answered answer_len told closing is_allowed outcome_of last_tick first_tick written step_text text head_text date_of year_at month_at appended digits closing_since pulled_to place_behind
returns c = (happens _ _ (get_parsed false, refl, refl, (get_parsed false, refl, refl, get_asked)), refl, refl, refl)
