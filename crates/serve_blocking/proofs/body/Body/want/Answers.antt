use Rattle.std.proofs.Common.{refl}
use Rattle.model_h1.specs.Event as on
use Rattle.serve_blocking.proofs.Answered.{does_where, does_nowhere, does_follow, nothing_then, seen_may}
use Rattle.serve_blocking.proofs.Results.{on_err}
use Rattle.serve_blocking.proofs.ServedLemmas.{unchanged}
use Rattle.serve_blocking.proofs.Waited.{does_equal}
use Rattle.serve_blocking.proofs.body.Body.want.Goals as goal

pub returns-then-not-can_continue-clause-follows : goal.returns-then-not-can_continue-clause-follows
returns-then-not-can_continue-clause-follows g c = does_follow _ _ _ (unchanged _ _ _ c.self.view_is refl refl refl refl refl refl)

pub returns-then-not-can_continue-clause-leave : goal.returns-then-not-can_continue-clause-leave
returns-then-not-can_continue-clause-leave g c =
    does_nowhere _ _ on.send_continue (seen_may _ _ on.send_continue _ _ c.self.view_is c.can_continue.ensures c.if-not-can_continue.true)
    (unchanged _ _ _ c.self.view_is refl refl refl refl refl refl)

pub returns-in_err-send_continue-clause-follows : goal.returns-in_err-send_continue-clause-follows
returns-in_err-send_continue-clause-follows g c =
    does_follow _ _ _ (nothing_then _ _ _ (unchanged _ _ _ c.self.view_is refl refl refl refl refl refl) (does_equal _ _ c.in_err-send_continue.ensures.err))

pub returns-in_err-send_continue-clause-none : goal.returns-in_err-send_continue-clause-none
returns-in_err-send_continue-clause-none g c =
    on_err c.from_residual.result
    (nothing_then _ _ _ (unchanged _ _ _ c.self.view_is refl refl refl refl refl refl) (does_equal _ _ c.in_err-send_continue.ensures.err))

pub returns-clause-follows : goal.returns-clause-follows
returns-clause-follows g c =
    does_follow _ _ _
    (does_where _ _ _ on.send_continue (unchanged _ _ _ c.self.view_is refl refl refl refl refl refl)
    (seen_may _ _ on.send_continue _ _ c.self.view_is c.can_continue.ensures c.if-not-can_continue.false) c.in_ok-send_continue.ensures.does)

pub returns-clause-leave : goal.returns-clause-leave
returns-clause-leave g c =
    does_where _ _ _ on.send_continue (unchanged _ _ _ c.self.view_is refl refl refl refl refl refl)
    (seen_may _ _ on.send_continue _ _ c.self.view_is c.can_continue.ensures c.if-not-can_continue.false) c.in_ok-send_continue.ensures.does
