use Rattle.std.proofs.Common.{ap, ◌∙◌}
use Rattle.h1_connection.proofs.StepLemmas.{sound_may}
use Rattle.h1_output.specs.Queued.{Queued}
use Rattle.h1_connection.proofs.connection.parts.Parts.refuse.Goals as goal

pub note-requires : goal.note-requires
note-requires c = let may = sound_may c.args.config.now c.args.self.now c.requires in record { searched = may.searched; behind = may.behind }

pub returns-clause-marks : goal.returns-clause-marks
returns-clause-marks c = ap (λ (q : Queued). q.marks) (c.note.ensures.output ∙ c.in_ok-put_fault.ensures.ok)

pub returns-clause-input : goal.returns-clause-input
returns-clause-input c = c.note.ensures.input
