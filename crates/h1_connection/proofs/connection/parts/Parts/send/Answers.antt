use Rattle.std.proofs.Common.{refl, sym, ◌∙◌, ap}
use Rattle.std.proofs.lemmas.Bool.{false≢true}
use Rattle.model_h1.specs.Event as on
use Rattle.h1_connection.specs.Parts.{kept_of}
use Rattle.h1_connection.proofs.StepLemmas.{sound_may}
use Rattle.h1_connection.proofs.FrameLemmas.{no_rule, nothing_said, sent_steps, sent_sound, unsent_steps, unsent_sound}
use Rattle.h1_output.specs.Queued.{Queued}
use Rattle.h1_connection.specs.Stock.{Stock}
use Rattle.h1_connection.proofs.connection.parts.Parts.send.Goals as goal

pub note-requires : goal.note-requires
note-requires c = let may = sound_may c.args.config.now c.args.self.now c.requires in record { searched = may.searched; behind = may.behind }

pub returns-in-Some-clause-ok : goal.returns-in-Some-clause-ok
returns-in-Some-clause-ok c =
    unsent_steps c.args.config.now c.args.self.now c.note.new.self _ c.in-Some.error (sym c.send_error.ensures ∙ c.in-Some.is) c.requires c.note.ensures.kept c.note.ensures.input

pub returns-in-Some-clause-sound : goal.returns-in-Some-clause-sound
returns-in-Some-clause-sound c = unsent_sound c.args.config.now c.args.self.now c.note.new.self c.requires c.note.ensures.kept c.note.ensures.input

pub returns-clause-ok : goal.returns-clause-ok
returns-clause-ok c = (
  on.done,
  refl,
  sent_steps c.args.config.now c.args.self.now _ c.put_message.new.self _ (no_rule _ (sym c.send_error.ensures ∙ c.in_default.is)) (ap (λ (q : Queued). q.bytes) c.in_ok-put_message.ensures.ok) c.sending_after-self.ensures c.requires,
)

pub returns-clause-sound : goal.returns-clause-sound
returns-clause-sound c = sent_sound c.args.config.now c.args.self.now _ _ _ refl c.requires

pub returns-in_err-put_message-clause-no_memory_needed : goal.returns-in_err-put_message-clause-no_memory_needed
returns-in_err-put_message-clause-no_memory_needed c = λ none.
    absurd (false≢true (c.in_err-put_message.ensures.nothing (nothing_said (kept_of c.args.self.now) _ (no_rule _ (sym c.send_error.ensures ∙ c.in_default.is)) none)))

pub returns-in-Some-clause-marks : goal.returns-in-Some-clause-marks
returns-in-Some-clause-marks c = ap (λ (q : Queued). q.marks) c.note.ensures.output

pub returns-clause-marks : goal.returns-clause-marks
returns-clause-marks c = ap (λ (q : Queued). q.marks) c.in_ok-put_message.ensures.ok

pub returns-in-Some-clause-ahead : goal.returns-in-Some-clause-ahead
returns-in-Some-clause-ahead c = ap (λ (i : Stock). i.ahead) c.note.ensures.input
