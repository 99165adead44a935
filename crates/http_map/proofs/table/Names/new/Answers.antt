use Rattle.http_map.proofs.SeenLemmas.{IsFew-none}
use Rattle.http_map.proofs.table.Names.new.Goals as goal

pub invariant_of-result : goal.invariant_of-result
invariant_of-result c = rw c.new.ensures.items (IsFew-none _)
