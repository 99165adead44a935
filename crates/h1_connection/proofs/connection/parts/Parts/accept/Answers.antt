use Rattle.std.proofs.Common.{sym, ◌∙◌, ◌++◌, ap}
use Rattle.model_h1.specs.Answer.{size_stream}
use Rattle.model_h1.specs.Handshake.{accepting_head}
use Rattle.model_h1.specs.Text.{answer_head_text}
use Rattle.h1_connection.proofs.FrameLemmas.{framed_may, framed_steps, framed_sound, refused_steps, no_accept}
use Rattle.h1_output.specs.Queued.{Queued}
use Rattle.h1_connection.specs.declared.connection.parts.Parts.{Parts}
use Rattle.h1_connection.specs.Stock.{Stock}
use Rattle.h1_connection.proofs.connection.parts.Parts.accept.Goals as goal

pub note-requires : goal.note-requires
note-requires c =
    framed_may c.args.config.now c.args.self.now _ c.in-Some.request c.args.limit _ c.set_frames.ensures (sym c.request.ensures ∙ c.in-Some.is) c.requires.waits c.requires.raw c.requires.sound

pub returns-in_default-clause-ok : goal.returns-in_default-clause-ok
returns-in_default-clause-ok c = no_accept c.args.config.now c.args.self.now c.args.limit (sym c.request.ensures ∙ c.in_default.is) c.requires.sound

pub returns-in-Some-refusal-clause-ok : goal.returns-in-Some-refusal-clause-ok
returns-in-Some-refusal-clause-ok c =
    refused_steps c.args.config.now c.args.self.now c.in-Some.request c.args.limit c.in-Some-refusal.error c.requires.sound (sym c.request.ensures ∙ c.in-Some.is) c.in-Some-refusal.is

pub returns-clause-ok : goal.returns-clause-ok
returns-clause-ok c =
    framed_steps c.args.config.now c.args.self.now c.set_frames.new.self c.note.new.self c.in-Some.request c.args.limit c.put_accept.new.self c.requires.sound c.requires.waits c.requires.raw (sym c.request.ensures ∙ c.in-Some.is) c.in_default-refusal.is
    (λ setting draining. ap (λ (q : Queued). q.bytes) c.in_ok-put_accept.ensures.ok
    ∙ (λ i. c.args.self.now.output.bytes ++ answer_head_text setting draining c.in-Some.request.asked (accepting_head (c.kept_key-key.ensures i)) size_stream (c.now.ensures i)))
    c.set_frames.ensures c.note.ensures.kept c.note.ensures.input

pub returns-clause-sound : goal.returns-clause-sound
returns-clause-sound c =
    framed_sound c.args.config.now c.args.self.now c.set_frames.new.self c.note.new.self c.in-Some.request c.args.limit c.put_accept.new.self c.requires.sound c.requires.waits c.requires.raw (sym c.request.ensures ∙ c.in-Some.is) c.set_frames.ensures
    c.note.ensures.kept c.note.ensures.input

pub returns-clause-marks : goal.returns-clause-marks
returns-clause-marks c =
    ap (λ (q : Queued). q.marks) (c.note.ensures.output ∙ ap (λ (p : Parts). p.output) c.set_frames.ensures ∙ c.in_ok-put_accept.ensures.ok)

pub returns-clause-ahead : goal.returns-clause-ahead
returns-clause-ahead c = ap (λ (i : Stock). i.ahead) c.note.ensures.input ∙ ap (λ (p : Parts). p.input.ahead) c.set_frames.ensures
