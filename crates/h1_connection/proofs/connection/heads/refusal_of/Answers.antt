use Rattle.std.proofs.Common.{sym, ◌∙◌}
use Rattle.h1_connection.proofs.HeadLemmas.{fails_with, says_upgrade, no_refusal, raw_refusal}
use Rattle.h1_connection.proofs.connection.heads.refusal_of.Goals as goal

pub returns-then-not-is_raw : goal.returns-then-not-is_raw
returns-then-not-is_raw c = λ h says. no_refusal h (sym (c.is_raw.ensures h says) ∙ c.if-not-is_raw.true)

pub returns-in-Ok : goal.returns-in-Ok
returns-in-Ok c = λ h says.
    sym (raw_refusal h (sym (c.is_raw.ensures h says) ∙ c.if-not-is_raw.false) ∙ c.in-Ok.ensures.read h (says_upgrade c.args.item.now h says))

pub returns-in-Err : goal.returns-in-Err
returns-in-Err c = λ h says.
    fails_with c.in-Err.error _ (c.in-Err.ensures.read h (says_upgrade c.args.item.now h says)) ∙ sym (raw_refusal h (sym (c.is_raw.ensures h says) ∙ c.if-not-is_raw.false))
