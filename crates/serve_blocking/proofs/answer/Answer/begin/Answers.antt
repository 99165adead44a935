use Rattle.std.proofs.Common.{inl, inr}
use Rattle.model_h1.specs.Event as on
use Rattle.serve_blocking.specs.declared.error.HandleError.TheVariants as handle_error
use Rattle.serve_blocking.specs.Fails.{NotBegun}
use Rattle.serve_blocking.proofs.Answered.{begins_follow, seen_may}
use Rattle.serve_blocking.proofs.Dropped.{drops_then, drops_follow, drops_equal, waits_drop}
use Rattle.serve_blocking.proofs.Failed.{fails_as, loss_fails, times_out_behind}
use Rattle.serve_blocking.proofs.Results.{err_as, on_err}
use Rattle.serve_blocking.proofs.Settled.{begins_here}
use Rattle.serve_blocking.proofs.answer.Answer.begin.Goals as goal

pub returns-in_err-settle-clause-follows : goal.returns-in_err-settle-clause-follows
returns-in_err-settle-clause-follows g c = drops_follow _ _ c.in_err-settle.ensures.drops

pub returns-in_err-settle-clause-none : goal.returns-in_err-settle-clause-none
returns-in_err-settle-clause-none g c = on_err c.from_residual.result c.in_err-settle.ensures.drops

pub returns-in_err-tick-clause-follows : goal.returns-in_err-tick-clause-follows
returns-in_err-tick-clause-follows g c = drops_follow _ _ (drops_then _ _ _ c.in_ok-settle.ensures.drops (waits_drop _ _ c.in_err-tick.ensures.waits))

pub returns-in_err-tick-clause-none : goal.returns-in_err-tick-clause-none
returns-in_err-tick-clause-none g c =
    on_err c.from_residual-in_err-tick.result (drops_then _ _ _ c.in_ok-settle.ensures.drops (waits_drop _ _ c.in_err-tick.ensures.waits))

pub returns-then-not-can_answer-clause-follows : goal.returns-then-not-can_answer-clause-follows
returns-then-not-can_answer-clause-follows g c =
    drops_follow _ _ (drops_then _ _ _ c.in_ok-settle.ensures.drops (waits_drop _ _ c.in_ok-tick.ensures.waits))

pub returns-then-not-can_answer-clause-none : goal.returns-then-not-can_answer-clause-none
returns-then-not-can_answer-clause-none g c = drops_then _ _ _ c.in_ok-settle.ensures.drops (waits_drop _ _ c.in_ok-tick.ensures.waits)

pub returns-in_err-begin_answer-clause-follows : goal.returns-in_err-begin_answer-clause-follows
returns-in_err-begin_answer-clause-follows g c =
    drops_follow _ _
    (drops_then _ _ _ (drops_then _ _ _ c.in_ok-settle.ensures.drops (waits_drop _ _ c.in_ok-tick.ensures.waits))
    (drops_equal _ _ c.in_err-begin_answer.ensures.err))

pub returns-in_err-begin_answer-clause-none : goal.returns-in_err-begin_answer-clause-none
returns-in_err-begin_answer-clause-none g c =
    on_err c.from_residual-in_err-begin_answer.result
    (drops_then _ _ _ (drops_then _ _ _ c.in_ok-settle.ensures.drops (waits_drop _ _ c.in_ok-tick.ensures.waits))
    (drops_equal _ _ c.in_err-begin_answer.ensures.err))

pub returns-clause-follows : goal.returns-clause-follows
returns-clause-follows g c =
    begins_follow _ _ _ _
    (begins_here _ _ _ _ _ _ _ c.in_ok-settle.ensures.says c.in_ok-settle.ensures.drops c.in_ok-settle.ensures.kept c.in_ok-settle.ensures.passed
    c.in_ok-tick.ensures.waits c.in_ok-begin_answer.ensures.adds)

pub returns-clause-begins : goal.returns-clause-begins
returns-clause-begins g c =
    begins_here _ _ _ _ _ _ _ c.in_ok-settle.ensures.says c.in_ok-settle.ensures.drops c.in_ok-settle.ensures.kept c.in_ok-settle.ensures.passed
    c.in_ok-tick.ensures.waits c.in_ok-begin_answer.ensures.adds

-- ---- why it wasn't begun

pub returns-in_err-settle-clause-fails : goal.returns-in_err-settle-clause-fails
returns-in_err-settle-clause-fails g c =
    err_as c.from_residual.result c.in_err-settle.field-0.0 (λ e. NotBegun e c.args.body.now c.settle.new.self) c.from_residual.ensures.1
    (loss_fails _ _ c.in_err-settle.field-0.0 c.in_err-settle.ensures.lost (inl c.in_err-settle.ensures.left))

pub returns-in_err-tick-clause-fails : goal.returns-in_err-tick-clause-fails
returns-in_err-tick-clause-fails g c =
    err_as c.from_residual-in_err-tick.result c.in_err-tick.field-0.0 (λ e. NotBegun e c.args.body.now c.tick.new.self) c.from_residual-in_err-tick.ensures.1
    (fails_as _ _ _ _ c.in_err-tick.field-0.0 (λ never. absurd never)
    (λ late. inr (times_out_behind _ _ _ (drops_follow _ _ c.in_ok-settle.ensures.drops) late))
    c.in_err-tick.ensures.late)

pub returns-then-not-can_answer-clause-fails : goal.returns-then-not-can_answer-clause-fails
returns-then-not-can_answer-clause-fails g c = λ head size.
    seen_may c.tick.new.self _ (on.answer head size) _ _ c.body.view_is (c.can_answer.ensures head size) c.if-not-can_answer.true

pub returns-in_err-begin_answer-clause-fails : goal.returns-in_err-begin_answer-clause-fails
returns-in_err-begin_answer-clause-fails g c =
    err_as c.from_residual-in_err-begin_answer.result handle_error.NoMemory (λ e. NotBegun e c.args.body.now c.begin_answer.new.self)
    c.from_residual-in_err-begin_answer.ensures.1 tt
