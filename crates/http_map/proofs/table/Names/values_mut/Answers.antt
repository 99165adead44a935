use Rattle.std.proofs.Common.{refl}
use Rattle.http_map.proofs.TableLemmas.{listed-with_values_at, IsTable-with_values_at}
use Rattle.http_map.proofs.table.Names.values_mut.Goals as goal

pub invariant_of-self-lent : goal.invariant_of-self-lent
invariant_of-self-lent c w = IsTable-with_values_at c.self.inside.seen.bits c.self.inside.table c.args.index w c.self.invariant

pub returns : goal.returns
returns c = (
  (refl, λ w. rw (← c.self.view_is) (listed-with_values_at c.self.inside.table c.args.index w)),
  record { writes_back = tt; value = rw (← c.self.view_is) c.values_mut.ensures.value },
)
