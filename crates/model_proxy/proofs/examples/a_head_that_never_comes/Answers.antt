use Rattle.std.proofs.Common.{refl}
use Rattle.model_proxy.proofs.examples.a_head_that_never_comes.Goals as goal

pub returns-clause-open : goal.returns-clause-open
returns-clause-open c = refl

pub returns-clause-ended : goal.returns-clause-ended
returns-clause-ended c = refl

pub returns-clause-full : goal.returns-clause-full
returns-clause-full c = refl
