use Rattle.std.proofs.Common.{length, arith}
use Rattle.std.proofs.lemmas.List.{length-append, length-replicate, drop_at}
use Rattle.board.proofs.name.Name.new.Goals as goal

pub invariant_of-result : goal.invariant_of-result
invariant_of-result c = grind (arith, length-append, length-replicate, drop_at, c.padded.ensures)
