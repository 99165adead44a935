use Rattle.std.proofs.Common.{refl}
use Rattle.model_h1.specs.Event as on
use Rattle.serve_blocking.proofs.Answered.{does_where, does_nowhere, seen_may}
use Rattle.serve_blocking.proofs.Followed.{adds_follow, follows_none}
use Rattle.serve_blocking.proofs.Waited.{adds_does, does_none}
use Rattle.serve_blocking.proofs.body.Body.fail_answer.Goals as goal

pub returns-then-not-can_end_answer-clause-follows : goal.returns-then-not-can_end_answer-clause-follows
returns-then-not-can_end_answer-clause-follows g c = follows_none _

pub returns-then-not-can_end_answer-clause-fails : goal.returns-then-not-can_end_answer-clause-fails
returns-then-not-can_end_answer-clause-fails g c =
    does_nowhere c.args.self.now c.args.self.now on.body_error
    (seen_may c.args.self.now _ on.body_error _ _ c.self.view_is c.can_end_answer.ensures.fails c.if-not-can_end_answer.true) (does_none c.args.self.now)

pub returns-clause-follows : goal.returns-clause-follows
returns-clause-follows g c = adds_follow _ _ _ _ c.break_answer.ensures.adds

pub returns-clause-fails : goal.returns-clause-fails
returns-clause-fails g c =
    does_where c.args.self.now c.args.self.now _ on.body_error (does_none c.args.self.now)
    (seen_may c.args.self.now _ on.body_error _ _ c.self.view_is c.can_end_answer.ensures.fails c.if-not-can_end_answer.false)
    (adds_does on.body_error on.done _ _ refl c.break_answer.ensures.adds)
