-- The first version, if there is one, is spoken or isn't.
use Rattle.std.proofs.Common.{refl, sym, ap, ◌∙◌}
use Rattle.model_h1.specs.Handshake as model
use Rattle.model_h1.specs.Handshake.{version_error}
use Rattle.ws_session.specs.Upgrade.{is_spoken}
use Rattle.ws_session.proofs.CheckLemmas.{spoken, unspoken, fails}
use Rattle.ws_session.proofs.verify.verify_version.Goals as goal

pub returns-in_default : goal.returns-in_default
returns-in_default c = λ h says. fails _ model.no_version_header _ (ap version_error (c.in_default.ensures h says)) refl

pub returns-then-is_spoken : goal.returns-then-is_spoken
returns-then-is_spoken c = λ h says.
    spoken c.in-Some.value _ (c.in-Some.ensures h says) (sym (c.is_spoken.ensures ∙ ap is_spoken c.as_bytes.ensures.value) ∙ c.if-is_spoken.true)

pub returns : goal.returns
returns c = λ h says.
    fails _ model.unsupported_version _
    (unspoken c.in-Some.value _ (c.in-Some.ensures h says) (sym (c.is_spoken.ensures ∙ ap is_spoken c.as_bytes.ensures.value) ∙ c.if-is_spoken.false)) refl
