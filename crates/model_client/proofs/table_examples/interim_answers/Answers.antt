use Rattle.std.proofs.Common.{refl}
use Rattle.httparse.specs.Grammar.{trim_ows}
use Rattle.model_client.proofs.table_examples.interim_answers.Goals as goal

pub returns-clause-body : goal.returns-clause-body
unfolding trim_ows
returns-clause-body c = refl

pub returns-clause-waits : goal.returns-clause-waits
unfolding trim_ows
returns-clause-waits c = refl

pub returns-clause-switching : goal.returns-clause-switching
unfolding trim_ows
returns-clause-switching c = refl

pub returns-clause-ok : goal.returns-clause-ok
unfolding trim_ows
returns-clause-ok c = refl
