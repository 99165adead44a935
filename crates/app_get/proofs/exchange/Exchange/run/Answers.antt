use Rattle.std.proofs.Common.{refl, inr, arith}
use Rattle.app_get.proofs.Going.{goes_none, goes_then, taken_goes, acts_then, then_acts}
use Rattle.app_get.proofs.Stopping.{err_ends, stops_then}
use Rattle.app_get.proofs.Taking.{part_acts, nothing_acts, nothing_pending, whole_is, turned_as}
use Rattle.app_get.proofs.exchange.Exchange.run.Goals as goal
use Rattle.app_get.proofs.exchange.Exchange.run.Goals.{in-Part, in-Nothing+in_ok-listen-in-Nothing}

pub loop-turn-init : goal.loop-turn-init
loop-turn-init g c = (goes_none _, omega arith)

pub returns-in-Whole-clause-goes : goal.returns-in-Whole-clause-goes
returns-in-Whole-clause-goes g c =
    goes_then _ _ _ c.loop-turn.invariant.0 (goes_then _ _ _ c.in_ok-fill.ensures.goes (taken_goes _ _ _ c.in_ok-status.ensures.taken))

pub returns-in-Whole-clause-whole : goal.returns-in-Whole-clause-whole
returns-in-Whole-clause-whole g c = (whole_is _ _ _ _ c.in_ok-status.ensures.taken c.in-Whole.is).0

pub returns-in-Whole-clause-status : goal.returns-in-Whole-clause-status
returns-in-Whole-clause-status g c = (whole_is _ _ _ _ c.in_ok-status.ensures.taken c.in-Whole.is).1

pub returns-in-Whole-clause-protocol : goal.returns-in-Whole-clause-protocol
returns-in-Whole-clause-protocol g c = (whole_is _ _ _ _ c.in_ok-status.ensures.taken c.in-Whole.is).2

pub returns-in-Whole-clause-wanted : goal.returns-in-Whole-clause-wanted
returns-in-Whole-clause-wanted g c = (whole_is _ _ _ _ c.in_ok-status.ensures.taken c.in-Whole.is).3

pub listen-requires : goal.listen-requires
listen-requires g c = nothing_pending _ _ _ c.in_ok-status.ensures.taken c.in-Nothing.is

pub returns-in_err-fill-clause-stops : goal.returns-in_err-fill-clause-stops
returns-in_err-fill-clause-stops g c = err_ends _ _ _ _ c.from_residual.ensures.1 (stops_then _ _ _ _ c.loop-turn.invariant.0 c.in_err-fill.ensures.stops)

pub returns-in_err-status-clause-stops : goal.returns-in_err-status-clause-stops
returns-in_err-status-clause-stops g c =
    err_ends _ _ _ _ c.from_residual-in_err-status.ensures.1 (stops_then _ _ _ _ c.loop-turn.invariant.0 (stops_then _ _ _ _ c.in_ok-fill.ensures.goes c.in_err-status.ensures.stops))

pub returns-in_err-listen-in-Nothing-clause-stops : goal.returns-in_err-listen-in-Nothing-clause-stops
returns-in_err-listen-in-Nothing-clause-stops g c =
    err_ends _ _ _ _ c.from_residual-in_err-listen-in-Nothing.ensures.1 (stops_then _ _ _ _ c.loop-turn.invariant.0 (stops_then _ _ _ _ c.in_ok-fill.ensures.goes
    (stops_then _ _ _ _ (taken_goes _ _ _ c.in_ok-status.ensures.taken) c.in_err-listen-in-Nothing.ensures.stops)))

pub returns-clause-stops : goal.returns-clause-stops
returns-clause-stops g c = inr (record { late = refl; goes = c.loop-turn.invariant.0; turns = omega (arith, c.loop-turn.invariant.1) })

pub loop-turn-preserved : goal.loop-turn-preserved
loop-turn-preserved g c =
    elim c.match-branch-3.branch [
      | in-Part w ↦
          turned_as _ _ _ _ _ w.self-is c.loop-turn.invariant.0 c.loop-turn.invariant.1
          (then_acts _ _ _ c.in_ok-fill.ensures.goes (acts_then _ _ _ (part_acts _ _ _ c.in_ok-status.ensures.taken w.in-Part.is) w.send_on.ensures))
      | in-Nothing+in_ok-listen-in-Nothing w ↦
          turned_as _ _ _ _ _ w.self-is c.loop-turn.invariant.0 c.loop-turn.invariant.1
          (then_acts _ _ _ c.in_ok-fill.ensures.goes (acts_then _ _ _ (nothing_acts _ _ _ c.in_ok-status.ensures.taken w.in-Nothing.is) w.in_ok-listen-in-Nothing.ensures.goes))
    ]
