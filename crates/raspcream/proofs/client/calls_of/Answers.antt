use Rattle.std.proofs.Common.{[]}
use Rattle.raspcream.proofs.client.calls_of.Goals as goal

pub returns : goal.returns
returns c = cc (c.can_chunk.ensures [], c.can_write.ensures 0)
