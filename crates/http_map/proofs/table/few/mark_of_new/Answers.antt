use Rattle.std.proofs.Common.{◌≡◌, ◌%◌, subst, ◌∙◌, ap}
use Rattle.std.specs.Int.{bit_at}
use Rattle.http_map.specs.Lines.{name_mark}
use Rattle.http_map.proofs.SeenLemmas.{lacks-unseen}
use Rattle.http_map.proofs.table.few.mark_of_new.Goals as goal

pub returns-clause-lacks : goal.returns-clause-lacks
returns-clause-lacks c =
    let bits = c.args.seen.bits in
    let marked = c.mark_of_name-mark.ensures ∙ ap name_mark c.as_bytes.ensures.value in
    lacks-unseen bits c.args.name.now c.args.lines.now.items c.requires (subst (λ m. bit_at bits (m % 64) ≡ 0) marked (c.may_have.ensures c.if-may_have.false))
