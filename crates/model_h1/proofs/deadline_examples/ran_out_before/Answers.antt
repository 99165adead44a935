use Rattle.std.proofs.Common.{[], ◌∷◌, refl}
use Rattle.model_h1.specs.Sums.{taken, accepted, last_tick, first_tick, request, since_head, answered, completed_at, answer_len}
use Rattle.model_h1.specs.Past.{place_behind, pulled_to}
use Rattle.model_h1.specs.Closing.{told, closing}
use Rattle.model_h1.specs.Allowed.{is_allowed}
use Rattle.model_h1.specs.OutcomeTable.{outcome_of}
use Rattle.model_h1.specs.Deadline.{deadline}
use Rattle.model_h1.proofs.ExampleLemmas.{nothing_behind}
use Rattle.model_h1.proofs.ExampleParses.{chunks_parsed, whole_parsed}
use Rattle.model_h1.proofs.ExampleSteps.{happens}
use Rattle.model_h1.specs.Event as on
use Rattle.model_h1.specs.Laws.ExampleTraces.{usual, parsed, chunks_text, chunks_head, open_chunks}
use Rattle.model_h1.proofs.PastLemmas.{Legal}
use Rattle.model_h1.proofs.deadline_examples.ran_out_before.Goals as goal

-- the request, up to its drop
dropped : Legal usual
    (parsed on.drop_body on.done (open_chunks ∷ [])
    ∷ parsed on.next (on.head chunks_head) (open_chunks ∷ [])
    ∷ parsed (on.read chunks_text) (on.took 54) (open_chunks ∷ [])
    ∷ parsed (on.tick 0) on.done [] ∷ [])
unfolding taken accepted request since_head answered answer_len told closing is_allowed outcome_of last_tick first_tick pulled_to place_behind
dropped = (chunks_parsed, refl, refl, (chunks_parsed, refl, refl, (chunks_parsed, refl, refl, (nothing_behind, refl, refl, tt))))

pub returns : goal.returns
unfolding taken accepted request since_head answered answer_len told closing is_allowed outcome_of last_tick first_tick completed_at deadline pulled_to place_behind
returns c = (
  happens _ _ (whole_parsed, refl, refl, (chunks_parsed, refl, refl, (chunks_parsed, refl, refl, dropped))),
  refl,
  refl,
  refl,
)
