use Rattle.h1_generated.proofs.Tallies.{fits_taken, fits_heads, fits_body, fits_text, comes_next, comes_all}
use Rattle.h1_generated.proofs.summary.counts_of.Goals as goal

pub with_step-counts-requires-clause-taken : goal.with_step-counts-requires-clause-taken
with_step-counts-requires-clause-taken c = fits_taken _ _ _ _ _ c.loop-step.invariant c.in-Some.ensures.steps c.requires

pub with_step-counts-requires-clause-heads : goal.with_step-counts-requires-clause-heads
with_step-counts-requires-clause-heads c = fits_heads _ _ _ _ _ c.loop-step.invariant c.in-Some.ensures.steps c.requires

pub with_step-counts-requires-clause-body : goal.with_step-counts-requires-clause-body
with_step-counts-requires-clause-body c = fits_body _ _ _ _ _ c.loop-step.invariant c.in-Some.ensures.steps c.requires

pub with_step-counts-requires-clause-text : goal.with_step-counts-requires-clause-text
with_step-counts-requires-clause-text c = fits_text _ _ _ _ _ c.loop-step.invariant c.in-Some.ensures.steps c.requires

pub loop-step-preserved : goal.loop-step-preserved
loop-step-preserved c =
    let next = c.with_step-counts.ensures in
    comes_next _ _ _ _ _ _ c.loop-step.invariant c.in-Some.ensures.steps next.events next.taken next.heads next.body next.text

pub returns : goal.returns
returns c = comes_all _ _ _ c.loop-step.invariant c.in-None.ensures.steps.0
