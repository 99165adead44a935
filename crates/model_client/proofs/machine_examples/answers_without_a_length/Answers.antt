use Rattle.std.proofs.Common.{refl}
use Rattle.httparse.specs.Grammar.{trim_ows}
use Rattle.model_client.proofs.machine_examples.answers_without_a_length.Goals as goal

pub returns-clause-head_that_closes : goal.returns-clause-head_that_closes
unfolding trim_ows
returns-clause-head_that_closes c = refl
