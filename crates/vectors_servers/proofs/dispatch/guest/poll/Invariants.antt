use Rattle.ws_service.specs.View.{MayBePolled}
use Rattle.vectors_servers.proofs.dispatch.guest.poll.Given as goal

abbrev pub invariant-loop : goal.invariant-loop
invariant-loop g l = MayBePolled g.U.Service.calling l.served
