use Rattle.std.proofs.Common.{[], ◌∷◌, codes, refl}
use Rattle.model_h1.specs.Sums.{taken, accepted, request, since_head, answered, answer_len}
use Rattle.model_h1.specs.Past.{place_behind, pulled_to}
use Rattle.model_h1.specs.Closing.{told, closing}
use Rattle.model_h1.specs.Allowed.{is_allowed}
use Rattle.model_h1.specs.OutcomeTable.{run_left, outcome_of}
use Rattle.model_h1.proofs.ExampleParses.{chunks_parsed, whole_parsed}
use Rattle.model_h1.proofs.ExampleSteps.{chunks_asked, happens}
use Rattle.model_h1.specs.Event as on
use Rattle.model_h1.specs.Laws.ExampleTraces.{usual, parsed, chunks_text, chunks_head, open_chunks}
use Rattle.model_h1.proofs.PastLemmas.{Legal}
use Rattle.model_h1.proofs.trace_examples.held_along_chunks.Goals as goal

-- two pulls, before the rest is read
waits : Legal usual
    (parsed on.pull on.pending (open_chunks ∷ [])
    ∷ parsed on.pull (on.bytes (codes "a")) (open_chunks ∷ [])
    ∷ parsed on.next (on.head chunks_head) (open_chunks ∷ [])
    ∷ parsed (on.read chunks_text) (on.took 54) (open_chunks ∷ []) ∷ [])
unfolding taken accepted request since_head answered answer_len told closing is_allowed run_left outcome_of
waits = (chunks_parsed, refl, refl, (chunks_parsed, refl, refl, chunks_asked))

pub returns : goal.returns
unfolding taken accepted request since_head answered answer_len told closing is_allowed outcome_of run_left pulled_to place_behind
returns c = (
  happens _ _ (whole_parsed, refl, refl, (whole_parsed, refl, refl, (whole_parsed, refl, refl, waits))),
  refl,
  refl,
  refl,
  refl,
  refl,
  refl,
  refl,
  refl,
  refl,
  refl,
  refl,
  refl,
  refl,
  refl,
)
