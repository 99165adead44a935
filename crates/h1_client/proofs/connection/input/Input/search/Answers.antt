use Rattle.std.proofs.Common.{List, ℕ, Some, subst}
use Rattle.h1_client.specs.Incoming.{Incoming, IsFound, IsSearched}
use Rattle.h1_client.proofs.InputLemmas.{found_of}
use Rattle.h1_client.proofs.connection.input.Input.search.Goals as goal

pub invariant_of-self : goal.invariant_of-self
invariant_of-self c = subst (λ (l : List ℕ). IsSearched l (Some c.searched.result)) c.as_slice.ensures c.searched.ensures

pub returns-then-is_none-clause-scanned : goal.returns-then-is_none-clause-scanned
returns-then-is_none-clause-scanned c =
    found_of _ (Some c.searched.result) (subst (λ (l : List ℕ). IsSearched l (Some c.searched.result)) c.as_slice.ensures c.searched.ensures)

pub returns-else-is_none-clause-scanned : goal.returns-else-is_none-clause-scanned
returns-else-is_none-clause-scanned c = subst (λ (i : Incoming). IsFound i) c.self.view_is (found_of _ _ c.self.invariant)
