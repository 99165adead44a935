use Rattle.std.proofs.Common.{◌≡◌, List, subst}
use Rattle.std.specs.Prelude.{IfOk, IsOk}
use Rattle.model_h1.specs.Sums as sums
use Rattle.model_state.specs.Ahead.{IsAhead}
use Rattle.h1_connection.specs.EventMeaning.{setting_of}
use Rattle.h1_connection.specs.State.{State, IsCounted}
use Rattle.h1_dispatcher.proofs.dispatcher.Dispatcher+T+S+S+Call+L+B.ahead.Goals as goal

pub returns-clause-value : goal.returns-clause-value
returns-clause-value g c = subst (λ (s : State). IfOk c.ahead.result (λ count. count ≡ s.ahead)) c.connection.ensures c.ahead.ensures.value

pub returns-clause-traced : goal.returns-clause-traced
returns-clause-traced g c =
    subst (λ (s : State). IfOk c.ahead.result (λ count. (trace : List sums.Step) → IsCounted s trace → IsAhead (setting_of s.settings) trace count)) c.connection.ensures c.ahead.ensures.traced

pub returns-clause-no_memory_needed : goal.returns-clause-no_memory_needed
returns-clause-no_memory_needed g c = subst (λ (s : State). s.ahead ≡ 0 → IsOk c.ahead.result) c.connection.ensures c.ahead.ensures.no_memory_needed
