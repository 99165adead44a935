use Rattle.h1_generated.proofs.Lists.{block_made}
use Rattle.h1_generated.proofs.events.all_letters.Goals as goal

pub returns : goal.returns
returns c = block_made _ _ _ _ c.new-block.ensures.items c.in_ok-resize.ensures.ok c.len-len.ensures.value c.in_ok-whole.ensures.front
