use Rattle.std.proofs.Common.{◌≡◌, true, false, sym}
use Rattle.std.proofs.lemmas.Bool.{false≢true}
use Rattle.model_h1.specs.Past.{steps}
use Rattle.model_h1.specs.Laws.ExampleTraces.{usual}
use Rattle.model_proxy.specs.Laws.Samples.{usual_edge}
use Rattle.model_proxy.specs.Laws.Histories.{drained_past}
use Rattle.model_proxy.proofs.SoFar.{so_far}
use Rattle.model_proxy.proofs.examples.an_unasked_end_is_refused.Goals as goal

pub returns : goal.returns
returns c history waiting xs x =
    let drained : true ≡ false = (so_far usual_edge usual history waiting (steps drained_past) xs x).undrained in
    absurd (false≢true (sym drained))
