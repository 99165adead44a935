use Rattle.std.specs.Prelude.{ℕ}
use Rattle.model_h1.specs.Event as on
use Rattle.h1_connection.specs.State.{IsAllowed}
use Rattle.serve_blocking.specs.Acts.{Waits}
use Rattle.serve_blocking.proofs.body.Body.flush.Given as goal

abbrev pub invariant-loop : goal.invariant-loop
invariant-loop g l = record {
  waits : Waits l.initial.self l.self;
  can : (count : ℕ) → IsAllowed l.self.state (on.write count);
}
