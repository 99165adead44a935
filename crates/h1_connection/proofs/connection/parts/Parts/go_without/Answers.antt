use Rattle.std.proofs.Common.{◌∙◌, sym, refl}
use Rattle.std.proofs.lemmas.Bool.{eq-eqb, ne_eqb}
use Rattle.h1_connection.specs.declared.event.HeadFault.TheVariants.{TooLarge}
use Rattle.h1_connection.proofs.HeadLemmas.{full_steps, pending_steps}
use Rattle.h1_connection.proofs.connection.parts.Parts.go_without.Goals as goal

pub returns-then-len-h1_hold_size-clause-ok : goal.returns-then-len-h1_hold_size-clause-ok
returns-then-len-h1_hold_size-clause-ok c =
    full_steps c.args.config.now c.args.self.now _ TooLarge refl c.requires.runs c.requires.none
    (eq-eqb _ _ (sym c.len.ensures ∙ c.if-len-h1_hold_size.true ∙ c.h1_hold_size.ensures.value)) c.in_ok-refuse.ensures.ok

pub returns-clause-ok : goal.returns-clause-ok
returns-clause-ok c =
    pending_steps c.args.config.now c.args.self.now c.requires.sound c.requires.runs c.requires.none
    (ne_eqb _ _ (λ e. c.if-len-h1_hold_size.false (c.len.ensures ∙ e ∙ sym c.h1_hold_size.ensures.value)))
