use Rattle.ws_service.specs.View.{MayBePolled}
use Rattle.vectors_servers.proofs.dispatch.guest.take_all.Given as goal

abbrev pub invariant-loop-step : goal.invariant-loop-step
invariant-loop-step g l = MayBePolled g.U.Service.calling l.served
