use Rattle.serve_blocking.specs.Served.{Handles}
use Rattle.serve_blocking.proofs.connection.serve.Given as goal

abbrev pub invariant-loop : goal.invariant-loop
invariant-loop g l = record { handles : Handles l.initial.body (g.H.Handler.handled l.initial.handler) l.body (g.H.Handler.handled l.handler) }
