use Rattle.std.proofs.Common.{[]}
use Rattle.model_h1.specs.Answer.{size_none}
use Rattle.model_h1.specs.Frame.{nop}
use Rattle.raspcream.specs.Bits.{some_head}
use Rattle.raspcream.proofs.told.calls_of.Goals as goal

pub returns : goal.returns
returns c = cc (c.can_answer.ensures some_head size_none, c.can_chunk.ensures [], c.can_write.ensures 0, c.can_send.ensures nop)
