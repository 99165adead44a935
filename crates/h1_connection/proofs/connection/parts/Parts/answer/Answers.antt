use Rattle.std.proofs.Common.{ℕ, ◌++◌, ◌∙◌, sym, ap}
use Rattle.h1_encoder.specs.Meaning.{answer_of, size_of, model_type}
use Rattle.model_h1.specs.Setting.{keeps}
use Rattle.http_config.specs.declared.keep_alive.KeepAlive.{KeepAlive}
use Rattle.h1_connection.specs.EventMeaning.{setting_of, keep_alive_of}
use Rattle.h1_connection.proofs.AnswerLemmas.{text_by, no_answer, waiting_unsearched, at_once_steps, complete_sound, later_steps_by, later_sound_by}
use Rattle.h1_output.specs.Queued.{Queued}
use Rattle.h1_connection.specs.declared.connection.parts.Parts.{Parts}
use Rattle.h1_connection.proofs.connection.parts.Parts.answer.Goals as goal

pub complete-requires-clause-unsearched : goal.complete-requires-clause-unsearched
complete-requires-clause-unsearched c = waiting_unsearched c.args.config.now c.args.self.now _ (sym c.asked.ensures ∙ c.in-Some.is) c.requires.waits c.requires.sound

pub complete-requires-clause-behind : goal.complete-requires-clause-behind
complete-requires-clause-behind c = c.requires.sound.behind

pub returns-in_default-clause-ok : goal.returns-in_default-clause-ok
returns-in_default-clause-ok c = no_answer c.args.config.now c.args.self.now _ _ (sym c.asked.ensures ∙ c.in_default.is) c.requires.sound

pub returns-then-is_at_once-clause-ok : goal.returns-then-is_at_once-clause-ok
returns-then-is_at_once-clause-ok c =
    at_once_steps c.args.config.now c.args.self.now _ c.in-Some.asked (answer_of c.args.head.now) (size_of c.args.size) c.type_of-connection.result c.put_head.new.self
    (sym c.asked.ensures ∙ c.in-Some.is) (sym c.is_at_once.ensures ∙ c.if-is_at_once.true)
    (c.type_of-connection.ensures (setting_of c.args.config.now) (sym (c.keeps.ensures ∙ ap (λ (k : KeepAlive). keeps (keep_alive_of k)) c.keep_alive.ensures.value)))
    (ap (λ (q : Queued). q.bytes) c.in_ok-put_head.ensures.ok
    ∙ ap (λ (m : ℕ). c.args.self.now.output.bytes ++ text_by c.in-Some.asked (answer_of c.args.head.now) (size_of c.args.size) (model_type c.type_of-connection.result) m) c.now.ensures)
    c.complete.ensures.settled

pub returns-then-is_at_once-clause-sound : goal.returns-then-is_at_once-clause-sound
returns-then-is_at_once-clause-sound c = complete_sound c.args.config.now (record c.args.self.now { output = c.put_head.new.self }) _ _ c.requires.sound.moment c.complete.ensures.settled

pub returns-else-is_at_once-clause-ok : goal.returns-else-is_at_once-clause-ok
returns-else-is_at_once-clause-ok c =
    later_steps_by c.args.config.now c.args.self.now c.set_reply.new.self c.in-Some.asked (answer_of c.args.head.now) (size_of c.args.size) _ c.put_head.new.self
    (sym c.asked.ensures ∙ c.in-Some.is) c.requires.waits (sym c.is_at_once.ensures ∙ c.if-is_at_once.false)
    (c.type_of-connection.ensures (setting_of c.args.config.now) (sym (c.keeps.ensures ∙ ap (λ (k : KeepAlive). keeps (keep_alive_of k)) c.keep_alive.ensures.value)))
    c.shape_of-shape.ensures c.stated.ensures
    (ap (λ (q : Queued). q.bytes) c.in_ok-put_head.ensures.ok
    ∙ ap (λ (m : ℕ). c.args.self.now.output.bytes ++ text_by c.in-Some.asked (answer_of c.args.head.now) (size_of c.args.size) (model_type c.type_of-connection.result) m) c.now.ensures)
    c.requires.sound c.set_reply.ensures

pub returns-else-is_at_once-clause-sound : goal.returns-else-is_at_once-clause-sound
returns-else-is_at_once-clause-sound c =
    later_sound_by c.args.config.now c.args.self.now _ c.in-Some.asked _ _ (sym c.asked.ensures ∙ c.in-Some.is) c.requires.waits c.requires.sound c.set_reply.ensures

pub returns-then-is_at_once-clause-marks : goal.returns-then-is_at_once-clause-marks
returns-then-is_at_once-clause-marks c = ap (λ (q : Queued). q.marks) (c.complete.ensures.output ∙ c.in_ok-put_head.ensures.ok)

pub returns-else-is_at_once-clause-marks : goal.returns-else-is_at_once-clause-marks
returns-else-is_at_once-clause-marks c = ap (λ (q : Queued). q.marks) (ap (λ (p : Parts). p.output) c.set_reply.ensures ∙ c.in_ok-put_head.ensures.ok)

pub returns-then-is_at_once-clause-ahead : goal.returns-then-is_at_once-clause-ahead
returns-then-is_at_once-clause-ahead c = c.complete.ensures.ahead

pub returns-else-is_at_once-clause-ahead : goal.returns-else-is_at_once-clause-ahead
returns-else-is_at_once-clause-ahead c = ap (λ (p : Parts). p.input.ahead) c.set_reply.ensures
