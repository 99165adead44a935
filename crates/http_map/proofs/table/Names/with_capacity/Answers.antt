use Rattle.http_map.proofs.SeenLemmas.{IsFew-none}
use Rattle.http_map.proofs.table.Names.with_capacity.Goals as goal
use Rattle.http_map.proofs.table.Names.with_capacity.Goals.{then-capacity-le-MOST_FEW+in_ok-with_capacity, else-capacity-le-MOST_FEW+in_ok-with_capacity-2}

pub invariant_of-result : goal.invariant_of-result
invariant_of-result c =
    elim c.if-capacity-le-MOST_FEW.branch [
      | then-capacity-le-MOST_FEW+in_ok-with_capacity w ↦ rw (w.table-is, w.in_ok-with_capacity.ensures.items) (IsFew-none _)
      | else-capacity-le-MOST_FEW+in_ok-with_capacity-2 w ↦ rw w.table-is tt
    ]
