use Rattle.app_chat.proofs.FlowLemmas.{passes_none, passes_then}
use Rattle.app_chat.proofs.round.write_out.Goals as goal

pub loop-init : goal.loop-init
loop-init g c = record { passes = λ left. passes_none _ _ }

pub loop-preserved : goal.loop-preserved
loop-preserved g c = record {
  passes = λ left. passes_then _ _ _ _ (c.loop.invariant.passes left) (passes_then _ _ _ _ (c.in_ok-fetch.ensures left _) (c.in_ok-write_some.ensures _ _ left));
}

pub returns-then-not-branch : goal.returns-then-not-branch
returns-then-not-branch g c = λ left.
    passes_then _ _ _ _ (c.loop.invariant.passes left) (passes_then _ _ _ _ (c.in_ok-fetch.ensures left _) (c.in_ok-write_some.ensures _ _ left))
