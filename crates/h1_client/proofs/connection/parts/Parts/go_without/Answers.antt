use Rattle.std.proofs.Common.{◌∙◌, sym, refl}
use Rattle.std.proofs.lemmas.Bool.{eq-eqb, ne_eqb}
use Rattle.h1_client.specs.declared.heads.AnswerFault.TheVariants as faults
use Rattle.h1_client.specs.ClientMeaning.{setting_of}
use Rattle.h1_client.specs.declared.event.ClientEnd.TheVariants.{LargeAnswer}
use Rattle.h1_client.proofs.AnswerLemmas.{full_next, pending_next}
use Rattle.h1_client.proofs.connection.parts.Parts.go_without.Goals as goal

pub returns-then-len-h1_hold_size-clause-ok : goal.returns-then-len-h1_hold_size-clause-ok
returns-then-len-h1_hold_size-clause-ok c =
    full_next (setting_of c.args.config.now) c.args.self.now faults.TooLarge LargeAnswer refl refl c.requires.sound c.requires.runs c.requires.none
    (eq-eqb _ _ (sym c.len.ensures ∙ c.if-len-h1_hold_size.true ∙ c.h1_hold_size.ensures.value))

pub returns-clause-ok : goal.returns-clause-ok
returns-clause-ok c =
    pending_next (setting_of c.args.config.now) c.args.self.now c.requires.sound c.requires.runs c.requires.none
    (ne_eqb _ _ (λ e. c.if-len-h1_hold_size.false (c.len.ensures ∙ e ∙ sym c.h1_hold_size.ensures.value)))
