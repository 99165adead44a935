use Rattle.std.proofs.Common.{ℕ, ◌≡◌, ◌∙◌, ap, sym, subst}
use Rattle.std.specs.Prelude.{IfOk, IsOk}
use Rattle.model_state.specs.Ahead.{IsAhead}
use Rattle.h1_connection.specs.EventMeaning.{setting_of}
use Rattle.h1_connection.specs.State.{State}
use Rattle.h1_connection.proofs.ResultLemmas.{ok_map}
use Rattle.h1_connection.proofs.connection.Connection.ahead.Goals as goal

pub returns-clause-value : goal.returns-clause-value
returns-clause-value c = subst (λ (s : State). IfOk c.ahead.result (λ count. count ≡ s.ahead)) c.self.view_is c.ahead.ensures.value

pub returns-clause-traced : goal.returns-clause-traced
returns-clause-traced c =
    ok_map c.ahead.result _ _
    (λ count is trace counted. subst (λ (n : ℕ). IsAhead (setting_of c.args.self.now.settings) trace n) (sym (is ∙ ap (λ (s : State). s.ahead) c.self.view_is)) counted)
    c.ahead.ensures.value

pub returns-clause-no_memory_needed : goal.returns-clause-no_memory_needed
returns-clause-no_memory_needed c = subst (λ (s : State). s.ahead ≡ 0 → IsOk c.ahead.result) c.self.view_is c.ahead.ensures.no_memory_needed
