use Rattle.std.proofs.Common.{refl}
use Rattle.model_proxy.proofs.ExampleLemmas.{to_the_end}
use Rattle.model_proxy.proofs.examples.bad_answers.Goals as goal

pub returns-clause-switching : goal.returns-clause-switching
returns-clause-switching c later = refl

pub returns-clause-lax : goal.returns-clause-lax
returns-clause-lax c later = refl

pub returns-clause-refusal : goal.returns-clause-refusal
returns-clause-refusal c later = refl

pub returns-clause-cut : goal.returns-clause-cut
returns-clause-cut c = refl

pub returns-clause-broken : goal.returns-clause-broken
returns-clause-broken c = refl

pub returns-clause-to_the_end : goal.returns-clause-to_the_end
returns-clause-to_the_end c = to_the_end
