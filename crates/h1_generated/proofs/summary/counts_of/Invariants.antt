use Rattle.h1_generated.specs.GeneratedMeaning.{model_counts}
use Rattle.h1_generated.proofs.Tallies.{Comes}
use Rattle.h1_generated.proofs.summary.counts_of.Given as goal

abbrev pub invariant-loop-step : goal.invariant-loop-step
invariant-loop-step l = Comes l.trace (model_counts l.counts) l.step-iterator
