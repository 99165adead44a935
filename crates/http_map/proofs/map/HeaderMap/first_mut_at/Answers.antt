use Rattle.std.proofs.Common.{refl, ap, ◌∙◌, sym, slice_get}
use Rattle.http_map.proofs.LendsLemmas.{filled_at, values_at-values_of, set_value_at-first, IsCounted-set_first_at}
use Rattle.http_map.proofs.map.HeaderMap.first_mut_at.Goals as goal

pub first_mut-requires : goal.first_mut-requires
first_mut-requires c = filled_at c.self.inside.names c.args.index c.values_mut.result.now c.self.invariant.entries c.values_mut.ensures.value

pub invariant_of-self-lent : goal.invariant_of-self-lent
invariant_of-self-lent c w =
    rw (set_value_at-first c.self.inside.names c.args.index c.values_mut.result.now w c.values_mut.ensures.value)
    (IsCounted-set_first_at c.self.inside.names c.args.index w c.self.inside.len c.self.invariant)

pub returns : goal.returns
returns c = (
  (refl, λ w. rw (← c.self.view_is) (set_value_at-first c.self.inside.names c.args.index c.values_mut.result.now w c.values_mut.ensures.value)),
  record {
    writes_back = tt;
    value = c.first_mut.ensures.value ∙ rw (← c.self.view_is) (ap (λ vs. slice_get vs 0) (sym (values_at-values_of c.self.inside.names c.args.index c.values_mut.result.now c.values_mut.ensures.value)));
  },
)
