use Rattle.std.proofs.Common.{[], ◌∷◌, false, refl}
use Rattle.std.specs.Fmt.{digits}
use Rattle.model_h1.specs.Answer.{size_of}
use Rattle.model_h1.specs.AnswerText.{year_at, month_at, date_of, appended, head_text}
use Rattle.model_h1.specs.Sums.{taken, written, accepted, last_tick, first_tick, request, since_head, answered, answer_len}
use Rattle.model_h1.specs.Past.{place_behind, pulled_to}
use Rattle.model_h1.specs.Text.{step_text, text}
use Rattle.model_h1.specs.Closing.{told, closing, closing_since}
use Rattle.model_h1.specs.Allowed.{is_allowed}
use Rattle.model_h1.specs.OutcomeTable.{outcome_of}
use Rattle.model_h1.specs.Deadline.{deadline}
use Rattle.model_h1.proofs.ExampleLemmas.{nothing_behind}
use Rattle.model_h1.proofs.ExampleParses.{get_parsed}
use Rattle.model_h1.proofs.ExampleSteps.{happens}
use Rattle.model_h1.specs.Event as on
use Rattle.model_h1.specs.Laws.ExampleTraces.{usual, parsed, get_text, get_head, get, ok_and_close}
use Rattle.model_h1.proofs.PastLemmas.{Legal}
use Rattle.model_h1.proofs.deadline_examples.waits_for_the_peer.Goals as goal

-- the request and its answer
closes : Legal usual
    (parsed (on.answer ok_and_close (size_of 0)) on.done (get ∷ [])
    ∷ parsed on.next (on.head get_head) (get ∷ [])
    ∷ parsed (on.read get_text) (on.took 27) (get ∷ [])
    ∷ parsed (on.tick 100) on.done [] ∷ [])
unfolding taken accepted request since_head answered answer_len told closing is_allowed outcome_of last_tick first_tick pulled_to place_behind
closes = (get_parsed false, refl, refl, (get_parsed false, refl, refl, (get_parsed false, refl, refl, (nothing_behind, refl, refl, tt))))

pub returns : goal.returns
unfolding taken accepted request since_head answered answer_len told closing is_allowed outcome_of last_tick first_tick written step_text text head_text date_of year_at month_at appended digits closing_since deadline pulled_to place_behind
returns c = (
  happens _ _ (get_parsed false, refl, refl, closes),
  happens _ _ (get_parsed false, refl, refl, closes),
  refl,
  refl,
  refl,
)
