use Rattle.std.proofs.Common.{ap, ◌∙◌}
use Rattle.h1_connection.proofs.EventLemmas.{eof_may_by, eof_steps_by, eof_sound_by}
use Rattle.h1_connection.proofs.StepLemmas.{passed_may}
use Rattle.h1_output.specs.Queued.{Queued}
use Rattle.h1_connection.specs.declared.connection.parts.Parts.{Parts}
use Rattle.h1_connection.proofs.connection.parts.Parts.eof.Goals as goal

pub pass_body-requires : goal.pass_body-requires
pass_body-requires c = eof_may_by c.args.config.now c.args.self.now _ c.requires c.end_request_body.ensures

pub settle-requires : goal.settle-requires
settle-requires c =
    passed_may c.end_request_body.new.self c.pass_body.new.self c.pass_body.ensures.kept c.pass_body.ensures.input c.pass_body.ensures.ahead (eof_may_by c.args.config.now c.args.self.now _ c.requires c.end_request_body.ensures)

pub returns-clause-ok : goal.returns-clause-ok
returns-clause-ok c = eof_steps_by c.args.config.now c.args.self.now c.end_request_body.new.self c.pass_body.new.self c.settle.new.self c.end_request_body.ensures c.pass_body.ensures.kept c.settle.ensures.settled

pub returns-clause-sound : goal.returns-clause-sound
returns-clause-sound c = eof_sound_by c.args.config.now c.args.self.now c.end_request_body.new.self c.pass_body.new.self c.settle.new.self c.requires c.end_request_body.ensures c.pass_body.ensures.kept c.settle.ensures.settled

pub returns-clause-marks : goal.returns-clause-marks
returns-clause-marks c = ap (λ (q : Queued). q.marks) (c.settle.ensures.output ∙ c.pass_body.ensures.output ∙ ap (λ (p : Parts). p.output) c.end_request_body.ensures)

pub returns-clause-ahead : goal.returns-clause-ahead
returns-clause-ahead c = c.settle.ensures.ahead ∙ c.pass_body.ensures.ahead ∙ ap (λ (p : Parts). p.input.ahead) c.end_request_body.ensures
