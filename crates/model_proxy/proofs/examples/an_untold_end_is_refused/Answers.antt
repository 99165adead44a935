use Rattle.std.proofs.Common.{◌≡◌, true, false}
use Rattle.std.proofs.lemmas.Bool.{false≢true}
use Rattle.model_h1.specs.Past.{steps}
use Rattle.model_h1.specs.Laws.ExampleTraces.{usual}
use Rattle.model_proxy.specs.Laws.Samples.{usual_edge}
use Rattle.model_proxy.specs.Laws.Histories.{ended_history, ticked_past}
use Rattle.model_proxy.proofs.SoFar.{so_far}
use Rattle.model_proxy.proofs.examples.an_untold_end_is_refused.Goals as goal

pub returns : goal.returns
returns c waiting xs x =
    let told : false ≡ true = (so_far usual_edge usual ended_history waiting (steps ticked_past) xs x).ended in
    absurd (false≢true told)
