use Rattle.std.proofs.Common.{refl}
use Rattle.model_h1.specs.AnswerText.{camel_rest}
use Rattle.model_h1.proofs.examples.camel_names.Goals as goal

pub returns-clause-usual : goal.returns-clause-usual
unfolding camel_rest
returns-clause-usual c = refl

pub returns-clause-hyphens : goal.returns-clause-hyphens
unfolding camel_rest
returns-clause-hyphens c = refl
