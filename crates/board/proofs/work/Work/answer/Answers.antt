use Rattle.std.proofs.Common.{rules, arith, ◌∙◌, None, true, map, ap, sym, subst}
use Rattle.board.specs.Work.{Worked, IsKept}
use Rattle.board.proofs.Kept.{kept_answered, kept_broken}
use Rattle.board.proofs.work.Work.answer.Goals as goal

pub invariant_of-self : goal.invariant_of-self
invariant_of-self g c =
    let i = c.self.inside in
    let w : Worked = record { pass = i.pass.pass; waiting = i.waiting; is_lost = i.is_lost; is_broken = i.is_broken; waits = i.waits; calls = map (λ p. p.0) i.calls.items; answers = i.answers.items } in
    let kept = kept_answered w c.in-Some.request c.in-Ok.response c.answer.new.pass (ap (λ x. x.is_lost) c.self.view_is ∙ c.requires.in_order) (ap (λ x. x.is_broken) c.self.view_is ∙ c.requires.whole)
    (sym c.take.ensures.value ∙ c.in-Some.is) c.answer.ensures.number c.in-Ok.ensures.answered c.self.invariant in
    subst (λ o. IsKept (record { pass = c.answer.new.pass; waiting = o; is_lost = i.is_lost; is_broken = i.is_broken; waits = i.waits; calls = map (λ p. p.0) i.calls.items; answers = c.and-self-inside.result.items })) (sym c.take.ensures.after)
    (subst (λ l. IsKept (record { pass = c.answer.new.pass; waiting = None; is_lost = i.is_lost; is_broken = i.is_broken; waits = i.waits; calls = map (λ p. p.0) i.calls.items; answers = l })) (sym c.and-self-inside.ensures) kept)

pub invariant_of-self-in-Err : goal.invariant_of-self-in-Err
invariant_of-self-in-Err g c =
    let i = c.self.inside in
    let w : Worked = record { pass = i.pass.pass; waiting = i.waiting; is_lost = i.is_lost; is_broken = i.is_broken; waits = i.waits; calls = map (λ p. p.0) i.calls.items; answers = i.answers.items } in
    let kept = kept_broken w c.in-Some.request c.answer.new.pass c.saturating_add-self-inside.result (ap (λ x. x.is_lost) c.self.view_is ∙ c.requires.in_order) (ap (λ x. x.is_broken) c.self.view_is ∙ c.requires.whole)
    (sym c.take.ensures.value ∙ c.in-Some.is) c.answer.ensures.number c.in-Err.ensures.err (search (rules, arith)) c.self.invariant in
    subst (λ o. IsKept (record { pass = c.answer.new.pass; waiting = o; is_lost = i.is_lost; is_broken = true; waits = c.saturating_add-self-inside.result; calls = map (λ p. p.0) i.calls.items; answers = i.answers.items })) (search rules) kept
