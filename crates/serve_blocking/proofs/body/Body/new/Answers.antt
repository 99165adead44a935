use Rattle.h1_connection.specs.State.{fresh_state}
use Rattle.serve_blocking.proofs.Began.{begins}
use Rattle.serve_blocking.proofs.body.Body.new.Goals as goal

pub returns-clause-begins : goal.returns-clause-begins
returns-clause-begins g c = begins _ (fresh_state _) _ _ _ c.new-connection.ensures
