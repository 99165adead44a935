use Rattle.std.proofs.Common.{◌≡◌, refl}
use Rattle.model_h1.specs.Event as on
use Rattle.serve_blocking.specs.declared.error.HandleError.TheVariants as handle_error
use Rattle.serve_blocking.proofs.Answered.{does_where, does_nowhere, seen_may}
use Rattle.serve_blocking.proofs.Followed.{adds_follow, follows_equal, follows_none}
use Rattle.serve_blocking.proofs.Results.{err_as, on_err}
use Rattle.serve_blocking.proofs.Waited.{adds_does, does_none}
use Rattle.serve_blocking.proofs.answer.Writer.end.Goals as goal

pub returns-then-not-can_end_answer-clause-follows : goal.returns-then-not-can_end_answer-clause-follows
returns-then-not-can_end_answer-clause-follows g c = follows_none _

pub returns-then-not-can_end_answer-clause-ends : goal.returns-then-not-can_end_answer-clause-ends
returns-then-not-can_end_answer-clause-ends g c =
    does_nowhere c.args.body.now c.args.body.now on.body_end
    (seen_may c.args.body.now _ on.body_end _ _ c.body.view_is c.can_end_answer.ensures.ends c.if-not-can_end_answer.true) (does_none c.args.body.now)

pub returns-in_err-end_answer-clause-follows : goal.returns-in_err-end_answer-clause-follows
returns-in_err-end_answer-clause-follows g c = follows_equal _ _ c.in_err-end_answer.ensures.err

pub returns-in_err-end_answer-clause-none : goal.returns-in_err-end_answer-clause-none
returns-in_err-end_answer-clause-none g c = on_err c.from_residual.result c.in_err-end_answer.ensures.err

pub returns-clause-follows : goal.returns-clause-follows
returns-clause-follows g c = adds_follow _ _ _ _ c.in_ok-end_answer.ensures.adds

pub returns-clause-ends : goal.returns-clause-ends
returns-clause-ends g c =
    does_where c.args.body.now c.args.body.now _ on.body_end (does_none c.args.body.now)
    (seen_may c.args.body.now _ on.body_end _ _ c.body.view_is c.can_end_answer.ensures.ends c.if-not-can_end_answer.false)
    (adds_does on.body_end on.done _ _ refl c.in_ok-end_answer.ensures.adds)

pub returns-clause-whole : goal.returns-clause-whole
returns-clause-whole g c = λ none.
    absurd (cc (none, seen_may c.args.body.now _ on.body_end _ _ c.body.view_is c.can_end_answer.ensures.ends c.if-not-can_end_answer.false))

pub returns-in_err-end_answer-clause-memory : goal.returns-in_err-end_answer-clause-memory
returns-in_err-end_answer-clause-memory g c = err_as c.from_residual.result handle_error.NoMemory (λ e. e ≡ handle_error.NoMemory) c.from_residual.ensures.1 refl
