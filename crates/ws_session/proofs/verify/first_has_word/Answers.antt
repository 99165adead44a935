-- The first value is text, and has the word or not.
use Rattle.std.proofs.Common.{refl, ap, ◌∙◌}
use Rattle.model_h1.specs.Handshake.{has_word}
use Rattle.ws_session.proofs.CheckLemmas.{has_first}
use Rattle.ws_session.proofs.verify.first_has_word.Goals as goal

pub returns-in-Ok : goal.returns-in-Ok
returns-in-Ok c = λ h says.
    has_first c.args.word.now c.in-Some.value _ c.has_word.result (c.in-Some.ensures h says) (c.in-Ok.ensures.succeeds.0 refl)
    (c.has_word.ensures ∙ c.requires.found _ ∙ ap (has_word c.args.word.now) (c.as_bytes.ensures.value ∙ c.in-Ok.ensures.ok))
