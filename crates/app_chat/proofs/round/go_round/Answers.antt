use Rattle.app_chat.proofs.FlowLemmas.{passes_then, passes_quiet}
use Rattle.app_chat.proofs.round.go_round.Goals as goal

pub returns-then-written : goal.returns-then-written
returns-then-written g c =
    passes_then _ _ _ _ (c.in_ok-read.ensures _)
    (passes_then _ _ _ _ (passes_quiet _ _ _ _ _ _ _ _ _ c.in_ok-turned.ensures.moves c.in_ok-turned.ensures.owed c.in_ok-turned.ensures.lost)
    (passes_then _ _ _ _ (c.in_ok-written.ensures _)
    (passes_quiet _ _ _ _ _ _ _ _ _ c.in_ok-went_on.ensures.moves c.in_ok-went_on.ensures.owed c.in_ok-went_on.ensures.lost)))

pub returns-else-written : goal.returns-else-written
returns-else-written g c =
    passes_then _ _ _ _ (c.in_ok-read.ensures _)
    (passes_then _ _ _ _ (passes_quiet _ _ _ _ _ _ _ _ _ c.in_ok-turned.ensures.moves c.in_ok-turned.ensures.owed c.in_ok-turned.ensures.lost)
    (passes_then _ _ _ _ (c.in_ok-written.ensures _)
    (passes_quiet _ _ _ _ _ _ _ _ _ c.in_ok-went_on.ensures.moves c.in_ok-went_on.ensures.owed c.in_ok-went_on.ensures.lost)))
