use Rattle.std.proofs.Common.{◌≡◌, ◌%◌, [], ◌∷◌, ◌++◌, sym, ap, subst, ◌∙◌}
use Rattle.std.specs.Int.{bit_at}
use Rattle.http_map.proofs.LineLemmas.{append-lacks}
use Rattle.http_map.proofs.SeenLemmas.{IsFew-append, IsFew-more}
use Rattle.http_map.proofs.table.Names.append.Goals as goal

pub invariant_of-self : goal.invariant_of-self
invariant_of-self c =
    let name = c.args.key in
    let m = c.in-Few.lines.items in
    let bits = c.with-self-inside.result.bits in
    let line : c.marked.result ≡ (name, c.args.value ∷ []) = c.marked.ensures ∙ ap (λ vs. (name, vs)) c.one.ensures in
    let is = c.push_reserved.ensures.items ∙ ap (λ e. m ++ e ∷ []) line ∙ sym (append-lacks name c.args.value m c.in-Some.ensures.lacks) in
    let named = subst (λ k. bit_at bits (k % 64) ≡ 1) c.in-Some.ensures.mark c.with-self-inside.ensures.added in
    let before = rw c.in-Few.is at c.self.invariant in
    rw is (IsFew-append bits name named c.args.value m (IsFew-more c.self.inside.seen.bits bits c.with-self-inside.ensures.kept m before))

pub returns-in-Some-clause-ok : goal.returns-in-Some-clause-ok
returns-in-Some-clause-ok c =
    let name = c.args.key in
    let m = c.in-Few.lines.items in
    let line : c.marked.result ≡ (name, c.args.value ∷ []) = c.marked.ensures ∙ ap (λ vs. (name, vs)) c.one.ensures in
    rw (← c.self.view_is, c.in-Few.is) (c.push_reserved.ensures.items ∙ ap (λ e. m ++ e ∷ []) line ∙ sym (append-lacks name c.args.value m c.in-Some.ensures.lacks))
