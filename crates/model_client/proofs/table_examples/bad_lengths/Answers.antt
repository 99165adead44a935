use Rattle.std.proofs.Common.{refl}
use Rattle.httparse.specs.Grammar.{trim_ows}
use Rattle.model_client.proofs.table_examples.bad_lengths.Goals as goal

pub returns-clause-twice : goal.returns-clause-twice
unfolding trim_ows
returns-clause-twice c = refl

pub returns-clause-no_number : goal.returns-clause-no_number
unfolding trim_ows
returns-clause-no_number c = refl

pub returns-clause-before_no_body : goal.returns-clause-before_no_body
unfolding trim_ows
returns-clause-before_no_body c = refl
