use Rattle.std.proofs.Common.{ℕ, ◌-◌, ◌≤◌, length, subst, ◌∙◌}
use Rattle.h1_connection.proofs.EventLemmas.{read_may, read_sound, came_steps}
use Rattle.h1_connection.proofs.StepLemmas.{passed_may}
use Rattle.h1_connection.proofs.connection.parts.Parts.read_from.Goals as goal

pub pass_body-requires : goal.pass_body-requires
pass_body-requires g c = read_may c.args.config.now c.args.self.now c.read_from.new.self c.requires c.in_ok-came.ensures.searched c.read_from.ensures.ahead

pub settle-requires : goal.settle-requires
settle-requires g c =
    passed_may (record c.args.self.now { input = c.read_from.new.self }) c.pass_body.new.self c.pass_body.ensures.kept c.pass_body.ensures.input c.pass_body.ensures.ahead
    (read_may c.args.config.now c.args.self.now c.read_from.new.self c.requires c.in_ok-came.ensures.searched c.read_from.ensures.ahead)

pub returns-clause-ok : goal.returns-clause-ok
returns-clause-ok g c =
    let came = c.in_ok-came.ensures.read in
    let room =
    subst (λ (h : ℕ). c.in_ok-came.came ≤ h - length c.args.self.now.input.unread) c.h1_hold_size.ensures.value c.in_ok-came.ensures.room in (
      came.0,
      came.1,
      came.3,
      came_steps c.args.config.now c.args.self.now c.pass_body.new.self c.settle.new.self c.read_from.new.self came.0 c.in_ok-came.came c.if-came-eq0.false came.1 room came.2 c.pass_body.ensures.kept
          c.settle.ensures.settled,
    )

pub returns-clause-sound : goal.returns-clause-sound
returns-clause-sound g c = read_sound c.args.config.now c.args.self.now c.pass_body.new.self c.settle.new.self c.read_from.new.self c.requires c.pass_body.ensures.kept c.settle.ensures.settled

pub returns-clause-ahead : goal.returns-clause-ahead
returns-clause-ahead g c = c.settle.ensures.ahead ∙ c.pass_body.ensures.ahead ∙ c.read_from.ensures.ahead
