use Rattle.std.proofs.Common.{◌+◌, ◌-◌, length, refl, arith}
use Rattle.h1_payload.proofs.PassLemmas.{chunk_leads, part_leads}
use Rattle.h1_payload.proofs.pass.pass_chunk.Goals as goal

pub returns-then-more-count : goal.returns-then-more-count
returns-then-more-count c = chunk_leads c.args.more c.args.bytes.now c.args.at (c.args.at + c.args.more + 1) (omega arith) refl

pub returns-else-more-count : goal.returns-else-more-count
returns-else-more-count c =
    part_leads c.args.more c.args.bytes.now c.args.at (c.args.more - (length c.args.bytes.now - c.args.at)) (omega arith) (omega arith) refl
