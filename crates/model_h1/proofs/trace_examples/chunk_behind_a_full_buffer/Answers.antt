use Rattle.std.proofs.Common.{false, refl}
use Rattle.std.specs.Fmt.{digits}
use Rattle.model_h1.specs.AnswerText.{year_at, month_at, date_of, appended, head_text}
use Rattle.model_h1.specs.Sums.{taken, written, accepted, last_tick, first_tick, request, since_head, answered, answer_len}
use Rattle.model_h1.specs.Past.{place_behind, pulled_to}
use Rattle.model_h1.specs.Text.{step_text, text}
use Rattle.model_h1.specs.Closing.{told, closing}
use Rattle.model_h1.specs.Allowed.{is_allowed}
use Rattle.model_h1.specs.OutcomeTable.{outcome_of}
use Rattle.model_h1.proofs.ExampleParses.{get_parsed}
use Rattle.model_h1.proofs.ExampleSteps.{happens}
use Rattle.model_h1.proofs.trace_examples.chunk_behind_a_full_buffer.Goals as goal

pub returns : goal.returns
unfolding taken accepted request since_head answered answer_len told closing is_allowed outcome_of pulled_to place_behind written step_text text head_text date_of year_at month_at appended digits last_tick first_tick
returns c = (
  happens _ _ (get_parsed false, refl, refl, (get_parsed false, refl, refl, (get_parsed false, refl, refl, tt))),
  refl,
  happens _ _ (get_parsed false, refl, refl, (get_parsed false, refl, refl, (get_parsed false, refl, refl, tt))),
  refl,
)
