use Rattle.std.proofs.Common.{◌≡◌, ◌%◌, subst}
use Rattle.std.specs.Int.{bit_at}
use Rattle.http_header.specs.Token.{lowercase}
use Rattle.http_map.proofs.SeenLemmas.{lacks-unseen}
use Rattle.http_map.proofs.table.few.find.Goals as goal

pub returns-then-not-may_have-clause-lacks : goal.returns-then-not-may_have-clause-lacks
returns-then-not-may_have-clause-lacks c =
    let bits = c.args.seen.bits in
    lacks-unseen bits (lowercase c.args.bytes.now) c.args.lines.now c.requires (subst (λ m. bit_at bits (m % 64) ≡ 0) c.mark_of-mark.ensures (c.may_have.ensures c.if-not-may_have.true))
