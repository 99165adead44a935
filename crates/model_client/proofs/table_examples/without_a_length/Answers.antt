use Rattle.std.proofs.Common.{refl}
use Rattle.httparse.specs.Grammar.{trim_ows}
use Rattle.model_client.proofs.table_examples.without_a_length.Goals as goal

pub returns-clause-zero : goal.returns-clause-zero
unfolding trim_ows
returns-clause-zero c = refl

pub returns-clause-none : goal.returns-clause-none
unfolding trim_ows
returns-clause-none c = refl

pub returns-clause-closes : goal.returns-clause-closes
unfolding trim_ows
returns-clause-closes c = refl

pub returns-clause-keeps : goal.returns-clause-keeps
unfolding trim_ows
returns-clause-keeps c = refl
