use Rattle.std.proofs.Common.{◌≡◌, arith, subst}
use Rattle.std.specs.Prelude.{IfOk, IsOk}
use Rattle.h1_connection.specs.Stock.{Stock}
use Rattle.h1_connection.proofs.ResultLemmas.{ok_map}
use Rattle.h1_connection.proofs.connection.intake.Intake.ahead.Goals as goal

pub heads_in-requires : goal.heads_in-requires
heads_in-requires c = c.self.invariant.within

pub returns-clause-value : goal.returns-clause-value
returns-clause-value c = subst (λ (s : Stock). IfOk c.heads_in.result (λ count. count ≡ s.ahead)) c.self.view_is c.heads_in.ensures.value

pub returns-clause-most : goal.returns-clause-most
returns-clause-most c = ok_map c.heads_in.result _ _ (λ count less. omega (arith, less, c.self.invariant.few)) c.heads_in.ensures.most

pub returns-clause-no_memory_needed : goal.returns-clause-no_memory_needed
returns-clause-no_memory_needed c = subst (λ (s : Stock). s.ahead ≡ 0 → IsOk c.heads_in.result) c.self.view_is c.heads_in.ensures.no_memory_needed
