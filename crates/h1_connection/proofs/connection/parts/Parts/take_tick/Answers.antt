use Rattle.std.proofs.Common.{ap, ◌∙◌}
use Rattle.h1_connection.proofs.StepLemmas.{sound_may}
use Rattle.h1_connection.proofs.TickLemmas.{tick_may, tick_steps_by, tick_sound_by}
use Rattle.h1_output.specs.Queued.{Queued}
use Rattle.h1_connection.specs.Stock.{Stock}
use Rattle.h1_connection.proofs.connection.parts.Parts.take_tick.Goals as goal

pub expire-requires-clause-searched : goal.expire-requires-clause-searched
expire-requires-clause-searched c = sound_may c.args.config.now c.args.self.now c.requires.sound

pub note-requires : goal.note-requires
note-requires c =
    let may = tick_may c.args.config.now c.args.self.now c.expire.new.self c.requires.sound c.expire.ensures.exchange c.expire.ensures.input in
    record { searched = may.searched; behind = may.behind }

pub returns-clause-ok : goal.returns-clause-ok
returns-clause-ok c =
    tick_steps_by c.args.config.now c.args.self.now c.expire.new.self c.note.new.self c.unwrap_or-first.result c.args.moment _ c.in_ok-expiry.expiry c.requires.sound c.unwrap_or-first.ensures c.in_ok-expiry.ensures.ok
    c.expire.ensures.exchange c.expire.ensures.input c.advance.ensures c.note.ensures.kept c.note.ensures.input

pub returns-clause-sound : goal.returns-clause-sound
returns-clause-sound c =
    tick_sound_by c.args.config.now c.args.self.now c.expire.new.self c.note.new.self c.args.moment _ c.requires.before c.requires.sound
    c.expire.ensures.exchange c.expire.ensures.input c.advance.ensures c.note.ensures.kept c.note.ensures.input

pub returns-clause-marks : goal.returns-clause-marks
returns-clause-marks c = ap (λ (q : Queued). q.marks) c.note.ensures.output ∙ c.in_ok-expiry.ensures.marks

pub returns-clause-ahead : goal.returns-clause-ahead
returns-clause-ahead c = ap (λ (i : Stock). i.ahead) (c.note.ensures.input ∙ c.expire.ensures.input)
