use Rattle.std.proofs.Common.{refl}
use Rattle.httparse.specs.Grammar.{trim_ows}
use Rattle.model_client.proofs.table_examples.switching_is_raw.Goals as goal

pub returns-clause-body : goal.returns-clause-body
unfolding trim_ows
returns-clause-body c = refl

pub returns-clause-connection : goal.returns-clause-connection
unfolding trim_ows
returns-clause-connection c = refl
