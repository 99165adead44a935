use Rattle.std.proofs.Common.{sym, ap, ◌∙◌, inl, inr}
use Rattle.model_h1.specs.Event as on
use Rattle.serve_blocking.specs.Served.{Line}
use Rattle.serve_blocking.proofs.Answered.{seen_may}
use Rattle.serve_blocking.proofs.Dropped.{drops_none}
use Rattle.serve_blocking.proofs.Failed.{left_here}
use Rattle.serve_blocking.proofs.Results.{on_err}
use Rattle.serve_blocking.proofs.Settled.{never, passed_where}
use Rattle.serve_blocking.proofs.body.Body.has_to_close.Goals as goal

pub returns-then-self-clause-drops : goal.returns-then-self-clause-drops
returns-then-self-clause-drops g c = drops_none _

pub returns-then-self-2-clause-drops : goal.returns-then-self-2-clause-drops
returns-then-self-2-clause-drops g c = drops_none _

pub returns-then-not-can_pull-clause-drops : goal.returns-then-not-can_pull-clause-drops
returns-then-not-can_pull-clause-drops g c = drops_none _

pub returns-then-not-can_pull-clause-closes : goal.returns-then-not-can_pull-clause-closes
returns-then-not-can_pull-clause-closes g c = λ holds. absurd (cc (ap (λ (l : Line). l.closes) c.self.view_is, holds, c.if-self.false))

pub returns-clause-closes : goal.returns-clause-closes
returns-clause-closes g c = λ holds. absurd (cc (ap (λ (l : Line). l.closes) c.self.view_is, holds, c.if-self.false))

pub returns-clause-stays : goal.returns-clause-stays
returns-clause-stays g c = λ fails left.
    never _ _ _ c.self.view_is c.if-self-2.false (sym c.can_pull.ensures.value ∙ c.if-not-can_pull.false) left

pub returns-clause-kept : goal.returns-clause-kept
returns-clause-kept g c = λ holds. absurd (cc (ap (λ (l : Line). l.wanted) c.self.view_is, holds, c.if-self-2.false))

pub returns-then-not-can_pull-clause-passed : goal.returns-then-not-can_pull-clause-passed
returns-then-not-can_pull-clause-passed g c = λ fails. inr (inl (seen_may _ _ on.drop_body _ _ c.self.view_is c.can_pull.ensures.value c.if-not-can_pull.true))

pub returns-clause-passed : goal.returns-clause-passed
returns-clause-passed g c = passed_where _ _ _ c.in_ok-pass_over_if_it_ends.ensures.passed

pub returns-in_err-pass_over_if_it_ends-clause-left : goal.returns-in_err-pass_over_if_it_ends-clause-left
returns-in_err-pass_over_if_it_ends-clause-left g c =
    on_err c.from_residual.result (left_here _ _ c.self.view_is c.if-self.false c.if-self-2.false (sym c.can_pull.ensures.value ∙ c.if-not-can_pull.false))
