use Rattle.std.proofs.Common.{false, [], ◌∷◌, None, refl, inl, inr}
use Rattle.std.proofs.lemmas.Bool.{false≢true}
use Rattle.model_h1.specs.Past.{steps}
use Rattle.model_h1.specs.Laws.ExampleTraces.{usual}
use Rattle.model_proxy.specs.Past.{new_server, servers}
use Rattle.model_proxy.specs.Forwarding.{IsUsed}
use Rattle.model_proxy.specs.Laws.Samples.{usual_edge}
use Rattle.model_proxy.specs.Laws.Histories.{get_exchange, asked_past, hung_up_history}
use Rattle.model_proxy.proofs.SoFar.{so_far}
use Rattle.model_proxy.proofs.examples.an_unused_connection_that_is_closed_is_refused.Goals as goal

unused : IsUsed [] new_server → ⊥
unused (inl e) = false≢true e
unused (inr some) = some refl

pub returns : goal.returns
unfolding servers
returns c x = unused ((so_far usual_edge usual hung_up_history None (steps asked_past) (get_exchange None 0 false ∷ []) x).used refl 0 refl)
