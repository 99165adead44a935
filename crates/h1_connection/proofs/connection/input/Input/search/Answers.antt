use Rattle.h1_connection.proofs.InputLemmas.{caught_searched}
use Rattle.h1_connection.proofs.connection.input.Input.search.Goals as goal

pub invariant_of-self : goal.invariant_of-self
invariant_of-self c = caught_searched _ _ _ _ _ c.as_slice.ensures c.self.invariant c.caught_up-self-inside.ensures
