use Rattle.std.proofs.Common.{refl, arith}
use Rattle.model_h1.specs.Place.{end_cr}
use Rattle.h1_payload.proofs.Places.{waits_at, end_at, no_end_at}
use Rattle.h1_payload.proofs.scan.find_line_feed.Goals as goal

pub returns-then-at-bytes-clause-value : goal.returns-then-at-bytes-clause-value
returns-then-at-bytes-clause-value c = waits_at end_cr c.args.bytes.now c.args.at refl (omega arith)

pub returns-then-bytes-at-eq10-clause-value : goal.returns-then-bytes-at-eq10-clause-value
returns-then-bytes-at-eq10-clause-value c = end_at c.args.bytes.now c.args.at (omega arith) c.if-bytes-at-eq10.true

pub returns-else-bytes-at-eq10-clause-value : goal.returns-else-bytes-at-eq10-clause-value
returns-else-bytes-at-eq10-clause-value c = no_end_at c.args.bytes.now c.args.at (omega arith) c.if-bytes-at-eq10.false
