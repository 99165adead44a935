use Rattle.serve_blocking.specs.Served.{Follows}
use Rattle.app_files.proofs.handler.FileHandler.send.Given as goal

abbrev pub invariant-loop : goal.invariant-loop
invariant-loop g l = record { follows : Follows l.initial.body l.body }
