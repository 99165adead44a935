use Rattle.std.proofs.Common.{Some, refl, ap, ◌∙◌}
use Rattle.std.proofs.lemmas.Str.{is_utf8-from_IsUtf8}
use Rattle.model_h1.specs.Frame as model
use Rattle.rooms.proofs.TextLemmas.{not_utf8}
use Rattle.rooms.proofs.queued_frame.QueuedFrame.text.Goals as goal

pub returns-in_default : goal.returns-in_default
returns-in_default c = rw (not_utf8 c.args.bytes.now c.in_default.ensures.cases.0) refl

pub returns : goal.returns
returns c =
    rw (is_utf8-from_IsUtf8 c.args.bytes.now c.in-Ok.ensures.cases.1)
    (ap Some (c.in_ok-line.ensures ∙ ap model.text (c.in_ok-text.ensures.ok ∙ c.in-Ok.ensures.cases.0)))
