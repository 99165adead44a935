use Rattle.std.proofs.Common.{arith}
use Rattle.app_get.proofs.Redirecting.{gone_none, gone_more, gone_nowhere, gone_last, gone_failed, gone_beyond, gone_err}
use Rattle.app_get.proofs.follow.follow.Goals as goal

pub loop-turn-init : goal.loop-turn-init
loop-turn-init g c = gone_none _ _ _ _ _ c.in_ok-stage.ensures.ok

pub loop-turn-preserved : goal.loop-turn-preserved
loop-turn-preserved g c = gone_more _ _ _ _ _ _ _ _ _ _ c.loop-turn.invariant c.in_ok-status.ensures c.in-On.is

pub returns-in_err-stage : goal.returns-in_err-stage
returns-in_err-stage g c = gone_err _ _ _ _ _ _ _ c.from_residual.ensures.1 (gone_nowhere _ _ _ _ _ c.in_err-stage.ensures.err)

pub returns-in_err-status : goal.returns-in_err-status
returns-in_err-status g c =
    gone_err _ _ _ _ _ _ _ c.from_residual-in_err-status.ensures.1 (gone_failed _ _ _ _ _ _ _ _ _ c.loop-turn.invariant (omega arith) c.in_err-status.ensures)

pub returns-in-Last : goal.returns-in-Last
returns-in-Last g c = gone_last _ _ _ _ _ _ _ _ _ _ c.loop-turn.invariant (omega arith) c.in_ok-status.ensures c.in-Last.is

pub returns : goal.returns
returns g c = gone_beyond _ _ _ _ _ _ _ c.loop-turn.invariant (omega arith)
