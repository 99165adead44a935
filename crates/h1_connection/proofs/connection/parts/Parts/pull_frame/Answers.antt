use Rattle.std.proofs.Common.{ap, ◌∙◌, sym}
use Rattle.std.proofs.lemmas.Bool.{false≢true}
use Rattle.h1_connection.proofs.FrameLemmas.{light_frame, upgraded_frames, upgraded_unsearched, upgraded_behind, frame_may, frame_steps, frame_sound}
use Rattle.h1_connection.proofs.NamedLemmas.{says_named}
use Rattle.h1_output.specs.Queued.{Queued}
use Rattle.h1_connection.specs.declared.connection.parts.Parts.{Parts}
use Rattle.h1_connection.specs.Stock.{Stock}
use Rattle.h1_connection.proofs.StepLemmas.{sound_may}
use Rattle.h1_connection.proofs.connection.parts.Parts.pull_frame.Goals as goal

pub pull_frame-requires-clause-unsearched : goal.pull_frame-requires-clause-unsearched
pull_frame-requires-clause-unsearched c = upgraded_unsearched c.args.config.now c.args.self.now c.requires.upgraded c.requires.sound

pub pull_frame-requires-clause-frames : goal.pull_frame-requires-clause-frames
pull_frame-requires-clause-frames c = upgraded_frames c.args.self.now c.in-Some.exchange c.in-Some.is c.requires.upgraded

pub note-requires : goal.note-requires
note-requires c = frame_may c.args.self.now _ c.in-Some.exchange _ _ c.in_ok-pulled.pulled _ c.fail_by.ensures.parts c.in_ok-pulled.ensures.pulled

pub returns-clause-ok : goal.returns-clause-ok
returns-clause-ok c =
    frame_steps c.args.config.now c.args.self.now c.fail_by.new.self c.note.new.self c.in-Some.exchange _ _ c.in_ok-pulled.pulled c.in-Some.is c.requires.upgraded c.requires.sound
    c.in_ok-pulled.ensures.pulled c.fail_by.ensures.failed c.fail_by.ensures.parts c.note.ensures.kept c.note.ensures.input

pub returns-clause-sound : goal.returns-clause-sound
returns-clause-sound c =
    frame_sound c.args.config.now c.args.self.now c.fail_by.new.self c.note.new.self c.in-Some.exchange _ _ c.in_ok-pulled.pulled c.requires.sound
    c.in_ok-pulled.ensures.pulled c.fail_by.ensures.parts c.note.ensures.kept c.note.ensures.input

pub returns-in_err-pulled-clause-no_memory_needed : goal.returns-in_err-pulled-clause-no_memory_needed
returns-in_err-pulled-clause-no_memory_needed c = λ light.
    absurd (false≢true (c.in_err-pulled.ensures.no_memory_needed (light_frame c.args.self.now c.in-Some.exchange c.in-Some.is light)))

pub returns-clause-named : goal.returns-clause-named
returns-clause-named c = says_named c.in_ok-pulled.pulled _ c.in_ok-pulled.ensures.pulled.pulled.says

pub returns-clause-marks : goal.returns-clause-marks
returns-clause-marks c = ap (λ (q : Queued). q.marks) (c.note.ensures.output ∙ ap (λ (p : Parts). p.output) c.fail_by.ensures.parts)

pub pull_frame-requires-clause-behind : goal.pull_frame-requires-clause-behind
pull_frame-requires-clause-behind c = upgraded_behind c.args.self.now c.requires.upgraded (sound_may c.args.config.now c.args.self.now c.requires.sound)

pub returns-clause-ahead : goal.returns-clause-ahead
returns-clause-ahead c =
    ap (λ (i : Stock). i.ahead) c.note.ensures.input ∙ ap (λ (p : Parts). p.input.ahead) c.fail_by.ensures.parts
    ∙ ap (λ (i : Stock). i.ahead) c.in_ok-pulled.ensures.pulled.pulled.after_is
    ∙ sym (upgraded_behind c.args.self.now c.requires.upgraded (sound_may c.args.config.now c.args.self.now c.requires.sound))
