use Rattle.http_map.proofs.SeenLemmas.{IsFew-none}
use Rattle.http_map.proofs.table.Names.clear.Goals as goal

pub invariant_of-self : goal.invariant_of-self
invariant_of-self c = rw c.clear.ensures.items (IsFew-none _)

pub invariant_of-self-in-Many-2 : goal.invariant_of-self-in-Many-2
invariant_of-self-in-Many-2 c = rw c.new.ensures.items (IsFew-none _)
