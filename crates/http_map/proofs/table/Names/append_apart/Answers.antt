use Rattle.std.proofs.Common.{◌≡◌, ◌%◌, subst, ap, ◌∙◌}
use Rattle.std.specs.Int.{bit_at}
use Rattle.http_map.specs.HeaderMap.{append}
use Rattle.http_map.specs.Lines.{name_mark}
use Rattle.http_map.proofs.SeenLemmas.{IsFew-append, IsFew-more, IsFew-after}
use Rattle.http_map.proofs.table.Names.append_apart.Goals as goal

pub invariant_of-self : goal.invariant_of-self
invariant_of-self c =
    let m = c.in-Few.lines.items in
    let bits = c.with-self-inside.result.bits in
    let named = subst (λ k. bit_at bits (k % 64) ≡ 1) (c.mark_of_name-mark.ensures ∙ ap name_mark c.as_bytes.ensures.value) c.with-self-inside.ensures.added in
    let before = IsFew-more c.self.inside.seen.bits bits c.with-self-inside.ensures.kept m (rw c.in-Few.is at c.self.invariant) in
    IsFew-after bits c.append_value.result (append m c.args.key c.args.value) m c.append_value.new.lines.items c.append_value.ensures.ok c.append_value.ensures.err (IsFew-append bits c.args.key named c.args.value m before) before
