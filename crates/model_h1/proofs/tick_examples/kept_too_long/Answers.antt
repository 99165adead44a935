use Rattle.std.proofs.Common.{[], ◌∷◌, false, refl}
use Rattle.model_h1.specs.Sums.{taken, accepted, last_tick, first_tick, request, since_head, answered, completed_at, answer_len}
use Rattle.model_h1.specs.Past.{place_behind, pulled_to}
use Rattle.model_h1.specs.Closing.{told, closing}
use Rattle.model_h1.specs.Allowed.{is_allowed}
use Rattle.model_h1.specs.OutcomeTable.{outcome_of}
use Rattle.model_h1.proofs.ExampleLemmas.{nothing_behind}
use Rattle.model_h1.proofs.ExampleParses.{get_parsed}
use Rattle.model_h1.specs.Event as on
use Rattle.model_h1.specs.Setting.{KeepAlive, timeout, by_system}
use Rattle.model_h1.specs.Laws.ExampleTraces.{usual, parsed, get_text, get_head, get}
use Rattle.model_h1.proofs.PastLemmas.{Legal}
use Rattle.model_h1.proofs.ExampleSteps.{happens}
use Rattle.model_h1.proofs.tick_examples.kept_too_long.Goals as goal

-- the request, however long a connection is kept
asked : (keep_alive : KeepAlive) → Legal (record usual { keep_alive = keep_alive })
    (parsed on.next (on.head get_head) (get ∷ []) ∷ parsed (on.read get_text) (on.took 27) (get ∷ []) ∷ parsed (on.tick 0) on.done [] ∷ [])
unfolding taken accepted request since_head answered answer_len told closing is_allowed outcome_of last_tick first_tick pulled_to place_behind
asked keep_alive = (get_parsed false, refl, refl, (get_parsed false, refl, refl, (nothing_behind, refl, refl, tt)))

pub returns : goal.returns
unfolding taken accepted request since_head answered answer_len told closing is_allowed outcome_of last_tick first_tick completed_at pulled_to place_behind
returns c = (
  happens _ _ (get_parsed false, refl, refl, (get_parsed false, refl, refl, asked (timeout 5000))),
  refl,
  refl,
  happens _ _ (get_parsed false, refl, refl, (get_parsed false, refl, refl, asked by_system)),
  refl,
)
