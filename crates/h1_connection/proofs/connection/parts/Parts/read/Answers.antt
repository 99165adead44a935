use Rattle.std.proofs.Common.{ℕ, ◌-◌, length, ap, ◌∙◌}
use Rattle.std.specs.Prelude.{min}
use Rattle.h1_connection.proofs.EventLemmas.{read_may, read_steps, read_sound}
use Rattle.h1_connection.proofs.StepLemmas.{passed_may}
use Rattle.h1_connection.proofs.connection.parts.Parts.read.Goals as goal

pub pass_body-requires : goal.pass_body-requires
pass_body-requires c = read_may c.args.config.now c.args.self.now c.take.new.self c.requires c.in_ok-count.ensures.searched c.take.ensures.ahead

pub settle-requires : goal.settle-requires
settle-requires c =
    passed_may (record c.args.self.now { input = c.take.new.self }) c.pass_body.new.self c.pass_body.ensures.kept c.pass_body.ensures.input c.pass_body.ensures.ahead
    (read_may c.args.config.now c.args.self.now c.take.new.self c.requires c.in_ok-count.ensures.searched c.take.ensures.ahead)

pub returns-clause-ok : goal.returns-clause-ok
returns-clause-ok c =
    read_steps c.args.config.now c.args.self.now c.pass_body.new.self c.settle.new.self c.take.new.self c.args.bytes.now c.in_ok-count.count
    (c.in_ok-count.ensures.count ∙ ap (λ (h : ℕ). min (length c.args.bytes.now) (h - length c.args.self.now.input.unread)) c.h1_hold_size.ensures.value) c.in_ok-count.ensures.ok c.pass_body.ensures.kept c.settle.ensures.settled

pub returns-clause-sound : goal.returns-clause-sound
returns-clause-sound c = read_sound c.args.config.now c.args.self.now c.pass_body.new.self c.settle.new.self c.take.new.self c.requires c.pass_body.ensures.kept c.settle.ensures.settled

pub returns-clause-ahead : goal.returns-clause-ahead
returns-clause-ahead c = c.settle.ensures.ahead ∙ c.pass_body.ensures.ahead ∙ c.take.ensures.ahead
