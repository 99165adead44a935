use Rattle.std.proofs.Common.{◌≡◌, true, rules, arith, sym, ap, ◌∙◌, get_or, subst}
use Rattle.std.specs.Prelude.{◌==◌}
use Rattle.std.proofs.lemmas.List.{get_or_default}
use Rattle.board.proofs.Filtered.{next_filtered}
use Rattle.board.proofs.compare.is_list_of.Goals.{then-next-own-via-then-next-own, then-next-own-via-else-next-own+then-not-is_same}
use Rattle.board.proofs.compare.is_list_of.Goals as goal

pub returns-then-next-own : goal.returns-then-next-own
returns-then-next-own c =
    let e = c.entry-item.result in
    let own = c.args.own.now in
    let i = c.loop-entry.entry-index in
    let n = c.loop-entry.next in
    let is : e ≡ get_or c.args.journal.now i e = c.entry-item.is in
    let passes : ((get_or c.args.journal.now i e).pass == c.args.number) ≡ true = subst (λ x. (x.pass == c.args.number) ≡ true) is (search rules) in (
      λ no. absurd (cc),
      λ all.
          let h = next_filtered (λ x. x.pass == c.args.number) c.args.journal.now own i n e c.loop-entry-test.true c.loop-entry.invariant.0 passes c.loop-entry.invariant.1 all in
          elim c.then-next-own.branch [
            | then-next-own-via-then-next-own w ↦ absurd (omega (arith, h.0, w.if-next-own.true))
            | then-next-own-via-else-next-own+then-not-is_same w ↦
                sym w.if-not-is_same.true ∙ w.is_same.ensures.1 (w.index-own-next.is ∙ get_or_default own n _ e h.0 ∙ h.1 ∙ sym is)
          ],
    )
