use Rattle.std.proofs.Common.{◌+◌, ◌-◌, length, refl, arith}
use Rattle.model_h1.specs.Place.{in_bytes}
use Rattle.h1_payload.proofs.Places.{waits_at, chunk_all, chunk_some}
use Rattle.h1_payload.proofs.scan.find_chunk.Goals as goal

pub returns-then-at-len-clause-value : goal.returns-then-at-len-clause-value
returns-then-at-len-clause-value c = waits_at (in_bytes c.args.more) c.args.bytes.now c.args.at refl (omega arith)

pub returns-then-more-count-clause-value : goal.returns-then-more-count-clause-value
returns-then-more-count-clause-value c =
    chunk_all c.args.more c.args.bytes.now c.args.at (c.args.at + c.args.more + 1) (omega arith) refl

pub returns-else-more-count-clause-value : goal.returns-else-more-count-clause-value
returns-else-more-count-clause-value c =
    chunk_some c.args.more c.args.bytes.now c.args.at (c.args.more - (length c.args.bytes.now - c.args.at)) (omega arith) (omega arith) refl
