use Rattle.std.proofs.Common.{sym, ap, ◌∙◌, subst}
use Rattle.std.specs.Prelude.{is_some}
use Rattle.h1_connection.specs.Incoming.{Incoming, IsFound}
use Rattle.h1_connection.proofs.InputLemmas.{found_of, finds}
use Rattle.h1_connection.proofs.connection.input.Input.is_searched.Goals as goal

pub returns-in_default-clause-value : goal.returns-in_default-clause-value
returns-in_default-clause-value c = sym (ap (λ (i : Incoming). is_some i.piece) (sym c.self.view_is) ∙ finds _ _ c.in_default.not-Off)

pub returns-in_default-clause-found : goal.returns-in_default-clause-found
returns-in_default-clause-found c = subst (λ (i : Incoming). IsFound i) c.self.view_is (found_of _ _ _ c.self.invariant)

pub returns-in-Off-clause-found : goal.returns-in-Off-clause-found
returns-in-Off-clause-found c = subst (λ (i : Incoming). IsFound i) c.self.view_is (found_of _ _ _ c.self.invariant)
