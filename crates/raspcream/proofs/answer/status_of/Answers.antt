use Rattle.raspcream.proofs.NamedLemmas.{no_status}
use Rattle.std.proofs.Common.{inr, arith, ◌<◌, ◌⊎◌, ℕ, subst}
use Rattle.raspcream.proofs.answer.status_of.Goals as goal

pub returns-in_default-clause-why : goal.returns-in_default-clause-why
returns-in_default-clause-why c = inr (omega (arith, c.in_default.ensures))

pub returns-in-Err-clause-why : goal.returns-in-Err-clause-why
returns-in-Err-clause-why c = subst (λ (n : ℕ). (n < 100) ⊎ (999 < n)) c.in-Ok.ensures.1 (no_status _ c.in-Err.ensures)
