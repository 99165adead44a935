use Rattle.std.proofs.Common.{ap, ◌∙◌}
use Rattle.h1_connection.proofs.EventLemmas.{dropped_may, dropped_steps, dropped_sound}
use Rattle.h1_output.specs.Queued.{Queued}
use Rattle.h1_connection.specs.declared.connection.parts.Parts.{Parts}
use Rattle.h1_connection.specs.Stock.{Stock}
use Rattle.h1_connection.proofs.connection.parts.Parts.drop_body.Goals as goal

pub note-requires : goal.note-requires
note-requires c = dropped_may c.args.config.now c.args.self.now _ c.requires c.set_dropped.ensures

pub returns-clause-ok : goal.returns-clause-ok
returns-clause-ok c = dropped_steps c.args.config.now c.args.self.now c.set_dropped.new.self c.note.new.self c.requires c.set_dropped.ensures c.note.ensures.kept c.note.ensures.input

pub returns-clause-sound : goal.returns-clause-sound
returns-clause-sound c = dropped_sound c.args.config.now c.args.self.now c.set_dropped.new.self c.note.new.self c.requires c.set_dropped.ensures c.note.ensures.kept c.note.ensures.input

pub returns-clause-marks : goal.returns-clause-marks
returns-clause-marks c = ap (λ (q : Queued). q.marks) (c.note.ensures.output ∙ ap (λ (p : Parts). p.output) c.set_dropped.ensures)

pub returns-clause-ahead : goal.returns-clause-ahead
returns-clause-ahead c = ap (λ (i : Stock). i.ahead) c.note.ensures.input ∙ ap (λ (p : Parts). p.input.ahead) c.set_dropped.ensures
