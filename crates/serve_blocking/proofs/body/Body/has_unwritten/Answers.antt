use Rattle.std.proofs.Common.{inl, inr, sym, subst, ◌∙◌}
use Rattle.std.proofs.lemmas.Bool.{eqb-true}
use Rattle.serve_blocking.specs.Acts.{IsFlushed}
use Rattle.serve_blocking.specs.Served.{Line}
use Rattle.serve_blocking.proofs.Written.{unwritten}
use Rattle.serve_blocking.proofs.body.Body.has_unwritten.Goals as goal

pub returns-then-is_empty-clause-none : goal.returns-then-is_empty-clause-none
returns-then-is_empty-clause-none g c = λ none.
    subst (λ (l : Line). IsFlushed l.state) c.self.view_is (inl (c.stretch.ensures.some (eqb-true _ 0 (sym c.is_empty.ensures ∙ c.if-is_empty.true))))

pub returns-clause-none : goal.returns-clause-none
returns-clause-none g c = λ none.
    subst (λ (l : Line). IsFlushed l.state) c.self.view_is (inr (λ count. sym (c.can_write.ensures count) ∙ none))

pub returns-clause-idle : goal.returns-clause-idle
returns-clause-idle g c = λ flushed.
    unwritten _ _ _ _ _ c.self.view_is c.is_empty.ensures c.if-is_empty.false c.stretch.ensures.fits (λ count. c.can_write.ensures count) flushed
