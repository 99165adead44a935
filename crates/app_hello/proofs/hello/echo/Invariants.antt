use Rattle.serve_blocking.specs.Served.{Follows}
use Rattle.app_hello.proofs.hello.echo.Given as goal

abbrev pub invariant-loop : goal.invariant-loop
invariant-loop g l = record { follows : Follows l.initial.body l.body }
