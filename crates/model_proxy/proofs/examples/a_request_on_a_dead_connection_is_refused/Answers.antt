use Rattle.std.proofs.Common.{◌≡◌, true, false, [], ◌∷◌, Some, sym, lit<}
use Rattle.std.proofs.lemmas.Bool.{false≢true}
use Rattle.model_h1.specs.Laws.ExampleTraces.{usual}
use Rattle.model_proxy.specs.Past.{servers}
use Rattle.model_proxy.specs.Laws.Samples.{usual_edge}
use Rattle.model_proxy.specs.Laws.Histories.{get_exchange, dead_history}
use Rattle.model_proxy.proofs.SoFar.{so_far}
use Rattle.model_proxy.proofs.examples.a_request_on_a_dead_connection_is_refused.Goals as goal

pub returns : goal.returns
unfolding servers
returns c waiting trace x =
    let ended : true ≡ false = ((so_far usual_edge usual dead_history waiting trace (get_exchange (Some 0) 5 false ∷ []) x).clean 0 (lit< tt)).1 in
    false≢true (sym ended)
