use Rattle.http_services.specs.Serving.{unknown_call}
use Rattle.h1_dispatcher.specs.View.{MayBePolled}
use Rattle.vectors_servers.proofs.dispatch.play.take_all.Given as goal

abbrev pub invariant-loop-step : goal.invariant-loop-step
invariant-loop-step g l = MayBePolled (λ _. unknown_call) l.served
