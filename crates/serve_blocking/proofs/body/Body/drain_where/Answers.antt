use Rattle.std.proofs.Common.{refl}
use Rattle.model_h1.specs.Event as on
use Rattle.serve_blocking.proofs.Answered.{does_where, does_nowhere, seen_may}
use Rattle.serve_blocking.proofs.Followed.{adds_follow, follows_none}
use Rattle.serve_blocking.proofs.Waited.{adds_does, does_none}
use Rattle.serve_blocking.proofs.body.Body.drain_where.Goals as goal

pub returns-then-not-is_ending-clause-ends : goal.returns-then-not-is_ending-clause-ends
returns-then-not-is_ending-clause-ends g c = λ holds. absurd (cc (holds, c.if-not-is_ending.true))

pub returns-then-not-is_ending-clause-follows : goal.returns-then-not-is_ending-clause-follows
returns-then-not-is_ending-clause-follows g c = follows_none _

pub returns-then-not-can_drain-clause-ends : goal.returns-then-not-can_drain-clause-ends
returns-then-not-can_drain-clause-ends g c = λ holds.
    does_nowhere c.args.self.now c.args.self.now on.drain
    (seen_may c.args.self.now _ on.drain _ _ c.self.view_is c.can_drain.ensures c.if-not-can_drain.true) (does_none c.args.self.now)

pub returns-then-not-can_drain-clause-follows : goal.returns-then-not-can_drain-clause-follows
returns-then-not-can_drain-clause-follows g c = follows_none _

pub returns-clause-ends : goal.returns-clause-ends
returns-clause-ends g c = λ holds.
    does_where c.args.self.now c.args.self.now _ on.drain (does_none c.args.self.now)
    (seen_may c.args.self.now _ on.drain _ _ c.self.view_is c.can_drain.ensures c.if-not-can_drain.false)
    (adds_does on.drain on.done _ _ refl c.drain.ensures.adds)

pub returns-clause-stays : goal.returns-clause-stays
returns-clause-stays g c = λ fails. absurd (cc (fails, c.if-not-is_ending.false))

pub returns-clause-follows : goal.returns-clause-follows
returns-clause-follows g c = adds_follow _ _ _ _ c.drain.ensures.adds
