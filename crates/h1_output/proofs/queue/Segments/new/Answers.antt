use Rattle.std.proofs.Common.{arith}
use Rattle.h1_output.proofs.Moves.{none_laid, none_queued}
use Rattle.h1_output.proofs.queue.Segments.new.Goals as goal

pub invariant_of-result : goal.invariant_of-result
invariant_of-result c = (none_laid c.new-2.result.items c.new.result.items c.new-2.ensures.items c.new.ensures.items, omega arith, c.new-2.ensures.items)

pub returns : goal.returns
returns c = none_queued c.new-2.result.items c.new.result.items c.new-2.ensures.items c.new.ensures.items
