use Rattle.std.proofs.Common.{refl}
use Rattle.httparse.specs.Grammar.{trim_ows}
use Rattle.model_client.proofs.table_examples.older_version_knows_no_coding.Goals as goal

pub returns-clause-one : goal.returns-clause-one
unfolding trim_ows
returns-clause-one c = refl

pub returns-clause-two : goal.returns-clause-two
unfolding trim_ows
returns-clause-two c = refl
