use Rattle.std.proofs.Common.{◌∙◌, sym, ap}
use Rattle.std.proofs.lemmas.Bool.{false≢true}
use Rattle.h1_connection.proofs.AnswerLemmas.{unsent_end, unasked, no_end, sending_unsearched, ended_steps, ended_sound, short_parts_piece, short_parts_behind}
use Rattle.h1_output.specs.Queued.{Queued}
use Rattle.h1_connection.specs.declared.connection.parts.Parts.{Parts}
use Rattle.h1_connection.proofs.connection.parts.Parts.end_answer.Goals as goal

pub complete-requires-clause-unsearched : goal.complete-requires-clause-unsearched
complete-requires-clause-unsearched c =
    short_parts_piece c.args.self.now _ _ c.note_short.ensures.parts
    (sending_unsearched c.args.config.now c.args.self.now _ _ (sym c.asked.ensures ∙ c.in-Some.is) (sym c.sending.ensures ∙ c.in-Some-sending.is) c.requires)

pub complete-requires-clause-behind : goal.complete-requires-clause-behind
complete-requires-clause-behind c = short_parts_behind c.args.self.now _ _ c.note_short.ensures.parts c.requires.behind

pub returns-in_default-clause-ok : goal.returns-in_default-clause-ok
returns-in_default-clause-ok c = no_end c.args.config.now c.args.self.now (unasked _ (sym c.asked.ensures ∙ c.in_default.is)) c.requires

pub returns-in_default-sending-clause-ok : goal.returns-in_default-sending-clause-ok
returns-in_default-sending-clause-ok c = no_end c.args.config.now c.args.self.now (sym c.sending.ensures ∙ c.in_default-sending.is) c.requires

pub returns-clause-ok : goal.returns-clause-ok
returns-clause-ok c =
    ended_steps c.args.config.now c.args.self.now c.note_short.new.self c.complete.new.self c.in-Some.asked c.in-Some-sending.sending c.put_end.new.self (sym c.asked.ensures ∙ c.in-Some.is) (sym c.sending.ensures ∙ c.in-Some-sending.is)
    (ap (λ (q : Queued). q.bytes) c.in_ok-put_end.ensures.ok) c.note_short.ensures.failed c.note_short.ensures.parts c.complete.ensures.settled

pub returns-clause-sound : goal.returns-clause-sound
returns-clause-sound c =
    ended_sound c.args.config.now c.args.self.now c.note_short.new.self c.complete.new.self c.in-Some-sending.sending c.put_end.new.self c.requires c.note_short.ensures.parts c.complete.ensures.settled

pub returns-in_err-put_end-clause-no_memory_needed : goal.returns-in_err-put_end-clause-no_memory_needed
returns-in_err-put_end-clause-no_memory_needed c = λ none.
    absurd (false≢true (c.in_err-put_end.ensures.no_memory_needed
    (unsent_end c.args.self.now c.in-Some.asked c.in-Some-sending.sending (sym c.asked.ensures ∙ c.in-Some.is) (sym c.sending.ensures ∙ c.in-Some-sending.is) none)))

pub returns-clause-marks : goal.returns-clause-marks
returns-clause-marks c = ap (λ (q : Queued). q.marks) (c.complete.ensures.output ∙ ap (λ (p : Parts). p.output) c.note_short.ensures.parts ∙ c.in_ok-put_end.ensures.ok)

pub returns-clause-ahead : goal.returns-clause-ahead
returns-clause-ahead c = c.complete.ensures.ahead ∙ ap (λ (p : Parts). p.input.ahead) c.note_short.ensures.parts
