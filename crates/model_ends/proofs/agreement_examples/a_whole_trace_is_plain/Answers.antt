use Rattle.std.proofs.Common.{refl, inl, inr, lit≤}
use Rattle.model_h1.specs.Sums.{last_tick}
use Rattle.model_h1.specs.Laws.Exchanges.{exchanges, changed_by}
use Rattle.model_h1.specs.Laws.ExampleTraces.{usual}
use Rattle.model_h1.proofs.ExampleSteps.{happens, whole_past, get_written}
use Rattle.model_ends.proofs.OrdinaryHeads.{empty_plain}
use Rattle.model_ends.proofs.InterimStatuses.{not_interim}
use Rattle.model_ends.proofs.agreement_examples.a_whole_trace_is_plain.Goals as goal

pub returns-clause-plain : goal.returns-clause-plain
unfolding exchanges changed_by last_tick
returns-clause-plain c = record {
  traced = (happens usual whole_past get_written).trace;
  unrefused = record {
    no_fault = (λ f e. cc, (λ f e. cc, (λ f e. cc, (λ f e. cc, (λ f e. cc, tt)))));
    in_time = (λ e. cc, (λ e. cc, (λ e. cc, (λ e. cc, (λ e. cc, tt)))));
  };
  plain = (record { version = lit≤ tt; reply = empty_plain }, tt);
}

pub returns-clause-counts_each : goal.returns-clause-counts_each
returns-clause-counts_each c = record {
  counts = λ status high. refl;
  goes_on = inr (λ e. cc, (λ e. cc, (λ e. cc, (λ e. cc, (λ e. cc, tt)))));
}

pub returns-clause-waits_on : goal.returns-clause-waits_on
returns-clause-waits_on c = record { counts = not_interim; goes_on = inl refl }
