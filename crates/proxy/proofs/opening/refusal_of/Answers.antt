use Rattle.std.proofs.Common.{true, false, refl, sym, ◌∙◌}
use Rattle.proxy.proofs.opening.refusal_of.Goals as goal

pub returns-then-is_refused : goal.returns-then-is_refused
returns-then-is_refused c = (true, refl, λ h says. sym (c.is_refused.ensures h says) ∙ c.if-is_refused.true)

pub returns : goal.returns
returns c = (false, refl, λ h says. sym (c.is_refused.ensures h says) ∙ c.if-is_refused.false)
