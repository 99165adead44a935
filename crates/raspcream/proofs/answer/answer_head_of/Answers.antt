use Rattle.raspcream.proofs.NamedLemmas.{fails_too, names_answer}
use Rattle.std.proofs.Common.{inl, inr, ◌∙◌}
use Rattle.std.proofs.lemmas.Result.{err_from_is_err_and}
use Rattle.raspcream.proofs.answer.answer_head_of.Goals as goal

pub returns-in_err-status-clause-why : goal.returns-in_err-status-clause-why
returns-in_err-status-clause-why c = let p = err_from_is_err_and c.from_residual.result c.from_residual.ensures.1 in rw (p.1, p.2) (fails_too _ _ _ (λ out. inl out) c.in_err-status.ensures.why)

pub returns-in_err-headers-clause-why : goal.returns-in_err-headers-clause-why
returns-in_err-headers-clause-why c = let p = err_from_is_err_and c.from_residual-in_err-headers.result c.from_residual-in_err-headers.ensures.1 in rw (p.1, p.2) (fails_too _ _ _ (λ none. inr none) c.in_err-headers.ensures.why)

pub returns-clause-ok : goal.returns-clause-ok
returns-clause-ok c = names_answer _ _ _ c.head_with.result (c.head_with.ensures.status ∙ c.in_ok-status.ensures.ok) c.head_with.ensures.headers c.head_with.ensures.reason c.head_with.ensures.flags c.in_ok-headers.ensures.ok
