use Rattle.std.proofs.Common.{ℕ, Some, None, refl, sym, subst}
use Rattle.std.specs.Prelude.{slice_range}
use Rattle.model_h1.specs.Request.{Fault}
use Rattle.model_client.specs.AnswerReading.{answer_is, refused, IsAnswerReadingWithin}
use Rattle.h1_client.specs.HeadMeaning.{fault_of}
use Rattle.h1_client.specs.ClientMeaning.{setting_of}
use Rattle.h1_client.specs.Answers.{IsNexted}
use Rattle.h1_client.specs.declared.connection.parts.Parts.{Parts}
use Rattle.h1_client.specs.declared.event.NextAnswer.TheVariants as next
use Rattle.h1_client.proofs.AnswerLemmas.{unasked_next, nobody_waits, somebody_waits, refused_next, answer_next, was_read}
use Rattle.h1_client.proofs.connection.parts.Parts.next_found.Goals as goal

pub returns-in_default-clause-ok : goal.returns-in_default-clause-ok
returns-in_default-clause-ok c =
    unasked_next (setting_of c.args.config.now) c.args.self.now c.args.place.0 c.args.place.1 c.requires.sound c.requires.runs c.requires.found
    (nobody_waits c.args.self.now.waiting None c.in_default.ensures refl)

pub returns-in-Ok-clause-ok : goal.returns-in-Ok-clause-ok
returns-in-Ok-clause-ok c =
    let p = c.args.self.now in
    let start = c.args.place.0 in
    let end = c.args.place.1 in
    let read = c.in-Ok.ensures.head in
    let waits = somebody_waits c.args.self.now.waiting (Some c.in-Some.first) c.in-Some.first c.in-Some.ensures refl in
    answer_next (setting_of c.args.config.now) p c.hand_out.new.self start end c.in-Some.first c.in-Ok.item read.0 c.requires.sound c.requires.runs c.requires.found waits
    (subst (λ (h : ℕ). IsAnswerReadingWithin (Some h) (slice_range p.input.unread start end) (answer_is read.0)) c.h1_hold_size.ensures.value read.1) read.2
    (c.hand_out.ensures.handed read.0 waits.one waits.others (was_read (slice_range c.args.self.now.input.unread c.args.place.0 c.args.place.1) c.h1_hold_size.result read.0 read.1) read.2 waits.all waits.asked)

pub returns-in-Ok-clause-sound : goal.returns-in-Ok-clause-sound
returns-in-Ok-clause-sound c =
    let read = c.in-Ok.ensures.head in
    let waits = somebody_waits c.args.self.now.waiting (Some c.in-Some.first) c.in-Some.first c.in-Some.ensures refl in
    c.hand_out.ensures.sound read.0 waits.one waits.others (was_read (slice_range c.args.self.now.input.unread c.args.place.0 c.args.place.1) c.h1_hold_size.result read.0 read.1) read.2 waits.all waits.asked

pub returns-in_ok-refuse-in-Err-clause-ok : goal.returns-in_ok-refuse-in-Err-clause-ok
returns-in_ok-refuse-in-Err-clause-ok c =
    let p = c.args.self.now in
    let start = c.args.place.0 in
    let end = c.args.place.1 in
    let cause = c.in_ok-refuse-in-Err.ensures.cause in
    let failed = c.in_ok-refuse-in-Err.ensures.ok in
    let fault = c.in_ok-refuse-in-Err.field-0 in
    let waits = somebody_waits c.args.self.now.waiting (Some c.in-Some.first) c.in-Some.first c.in-Some.ensures refl in
    let read = c.in-Err.ensures.fault cause.0 in
    let within = subst (λ (f : Fault). IsAnswerReadingWithin (Some c.h1_hold_size.result) (slice_range p.input.unread start end) (refused f)) (sym cause.1) read in
    subst (λ (q : Parts). IsNexted (setting_of c.args.config.now) p (next.Fault fault) q) (sym failed.2)
    (refused_next (setting_of c.args.config.now) p start end c.in-Some.first fault failed.0 c.requires.sound c.requires.runs c.requires.found waits
    (subst (λ (h : ℕ). IsAnswerReadingWithin (Some h) (slice_range p.input.unread start end) (refused (fault_of fault))) c.h1_hold_size.ensures.value within) failed.1)
