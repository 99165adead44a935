use Rattle.serve_blocking.specs.Acts.{Drops}
use Rattle.serve_blocking.proofs.body.Body.pass_over.Given as goal

abbrev pub invariant-loop : goal.invariant-loop
invariant-loop g l = record { drops : Drops l.initial.self l.self }
