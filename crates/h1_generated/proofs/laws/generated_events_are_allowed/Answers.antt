use Rattle.std.proofs.Common.{List, sym, subst}
use Rattle.model_h1.specs.Event.{Event}
use Rattle.model_h1.specs.Sums.{Step}
use Rattle.model_h1.specs.Laws.Runs.{IsWhole}
use Rattle.h1_generated.specs.Generated.{setting}
use Rattle.h1_generated.proofs.Runs.{allowed}
use Rattle.h1_generated.proofs.laws.generated_events_are_allowed.Goals as goal

pub returns : goal.returns
returns c = λ events seed count fits is.
    subst (λ (es : List Event). (model : List Step) × IsWhole setting es model) (sym is) (allowed seed count fits)
