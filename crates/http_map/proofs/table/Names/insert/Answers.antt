use Rattle.std.proofs.Common.{◌≡◌, ◌%◌, subst, ap, ◌∙◌}
use Rattle.std.specs.Int.{bit_at}
use Rattle.http_map.specs.HeaderMap.{insert}
use Rattle.http_map.specs.Lines.{name_mark}
use Rattle.http_map.proofs.SeenLemmas.{IsFew-insert, IsFew-more, IsFew-after}
use Rattle.http_map.proofs.table.Names.insert.Goals as goal

pub invariant_of-self : goal.invariant_of-self
invariant_of-self c =
    let m = c.in-Few.lines.items in
    let bits = c.with-self-inside.result.bits in
    let named = subst (λ k. bit_at bits (k % 64) ≡ 1) (c.mark_of_name-mark.ensures ∙ ap name_mark c.as_bytes.ensures.value) c.with-self-inside.ensures.added in
    let before = IsFew-more c.self.inside.seen.bits bits c.with-self-inside.ensures.kept m (rw c.in-Few.is at c.self.invariant) in
    IsFew-after bits c.insert_value.result (insert m c.args.name c.args.value) m c.insert_value.new.lines.items c.insert_value.ensures.ok c.insert_value.ensures.err (IsFew-insert bits c.args.name named c.args.value m before) before
