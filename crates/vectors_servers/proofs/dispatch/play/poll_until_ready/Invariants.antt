use Rattle.http_services.specs.Serving.{unknown_call}
use Rattle.h1_dispatcher.specs.View.{MayBePolled}
use Rattle.vectors_servers.proofs.dispatch.play.poll_until_ready.Given as goal

abbrev pub invariant-loop : goal.invariant-loop
invariant-loop g l = MayBePolled (λ _. unknown_call) l.served
