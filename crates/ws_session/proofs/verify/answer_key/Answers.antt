-- The first key is hashed, or none.
use Rattle.std.proofs.Common.{ℕ, List, sym, ap, ◌∙◌}
use Rattle.model_h1.specs.Handshake.{accept_key, key_of}
use Rattle.ws_session.proofs.verify.answer_key.Goals as goal

pub returns-in-Some : goal.returns-in-Some
returns-in-Some c = λ h says. c.hash_key.ensures ∙ ap accept_key (c.as_bytes.ensures.value ∙ sym (ap key_of (c.in-Some.ensures h says).1))

pub returns-in-None : goal.returns-in-None
returns-in-None c = λ h says. c.hash_key-in-None.ensures ∙ sym (ap (λ (keys : List (List ℕ)). accept_key (key_of keys)) (c.in-None.ensures h says))
