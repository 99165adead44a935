use Rattle.std.proofs.Common.{◌≤◌, ◌-◌, ℕ, sym, ap, ◌∙◌, subst, arith}
use Rattle.std.specs.Prelude.{is_some}
use Rattle.std.proofs.lemmas.Result.{err_from_is_err_and}
use Rattle.h1_decoder.specs.Refusal.{fault_of}
use Rattle.h1_connection.specs.Ahead.{IsCountBehind}
use Rattle.h1_connection.specs.Incoming.{Incoming, IsPassedHead}
use Rattle.h1_connection.specs.Stock.{Stock, stock_of, IsFaultAhead, HandsOut}
use Rattle.h1_connection.proofs.IntakeLemmas.{handed, fault_last, none_counted, passed_less}
use Rattle.h1_connection.proofs.connection.intake.Intake.take_head.Goals as goal

-- ---- it is refused

pub returns-in_err-read_head-clause-fault : goal.returns-in_err-read_head-clause-fault
returns-in_err-read_head-clause-fault c =
    let p = err_from_is_err_and c.from_residual.result c.from_residual.ensures.1 in
    rw (p.1, p.2) (λ ne. subst (λ (s : Stock). IsFaultAhead s (fault_of c.in_err-read_head.field-0.0)) c.self.view_is (c.in_err-read_head.ensures.fault ne))

pub returns-in_err-read_head-clause-last : goal.returns-in_err-read_head-clause-last
returns-in_err-read_head-clause-last c =
    let p = err_from_is_err_and c.from_residual.result c.from_residual.ensures.1 in
    rw (p.1, p.2)
    (λ ne. subst (λ (s : Stock). s.ahead ≤ 1) c.self.view_is
    (fault_last c.self.inside.count c.self.inside.input (fault_of c.in_err-read_head.field-0.0) (c.in_err-read_head.ensures.fault ne)))

-- ---- none is there

pub returns-then-not-branch-clause-none_ahead : goal.returns-then-not-branch-clause-none_ahead
returns-then-not-branch-clause-none_ahead c = λ _ searched.
    sym (ap (λ (s : Stock). s.ahead) c.self.view_is)
    ∙ none_counted c.self.inside.count c.self.inside.input c.read_head.ensures.found (c.in_ok-read_head.ensures.none c.if-not-branch.true).0
    (ap (λ (s : Stock). is_some s.piece) c.self.view_is ∙ searched)

-- ---- it is handed out

pub overflow_sub-size : goal.overflow_sub-size
overflow_sub-size c =
    let passed = subst (λ (i : Incoming). IsPassedHead i c.pass_head.new.self) c.read_head.ensures.same c.pass_head.ensures in
    let less = passed_less c.self.inside.input c.self.inside.input.piece c.pass_head.new.self passed in
    omega (arith, less, c.len-held.ensures.value, c.len-len.ensures.value)

pub returns-clause-head : goal.returns-clause-head
returns-clause-head c = λ _.
    let next = c.in_ok-read_head.ensures.head c.if-not-branch.false in
    let passed = subst (λ (i : Incoming). IsPassedHead i c.pass_head.new.self) c.read_head.ensures.same c.pass_head.ensures in
    let size = c.len-held.result - c.len-len.result in
    let goes = subst (λ (n : ℕ). IsCountBehind c.self.inside.count size n c.has_body.result c.behind-self-inside.result) c.len-len.ensures.value c.behind-self-inside.ensures in
    subst (λ (s : Stock). HandsOut s c.read_head.new.item (stock_of c.behind-self-inside.result c.pass_head.new.self)) c.self.view_is
    (handed c.self.inside.count c.behind-self-inside.result c.self.inside.input c.pass_head.new.self c.read_head.new.item size c.has_body.result c.self.invariant next passed
    (omega (arith, c.len-held.ensures.value, c.len-len.ensures.value)) (c.has_body.ensures next.2.0 next.2.2) goes).0

pub invariant_of-self-2 : goal.invariant_of-self-2
invariant_of-self-2 c =
    let next = c.in_ok-read_head.ensures.head c.if-not-branch.false in
    let passed = subst (λ (i : Incoming). IsPassedHead i c.pass_head.new.self) c.read_head.ensures.same c.pass_head.ensures in
    let size = c.len-held.result - c.len-len.result in
    let goes = subst (λ (n : ℕ). IsCountBehind c.self.inside.count size n c.has_body.result c.behind-self-inside.result) c.len-len.ensures.value c.behind-self-inside.ensures in
    (handed c.self.inside.count c.behind-self-inside.result c.self.inside.input c.pass_head.new.self c.read_head.new.item size c.has_body.result c.self.invariant next passed
    (omega (arith, c.len-held.ensures.value, c.len-len.ensures.value)) (c.has_body.ensures next.2.0 next.2.2) goes).1
