use Rattle.std.proofs.Common.{refl}
use Rattle.httparse.specs.Grammar.{trim_ows}
use Rattle.model_client.proofs.table_examples.head_has_no_body.Goals as goal

pub returns-clause-head : goal.returns-clause-head
unfolding trim_ows
returns-clause-head c = refl

pub returns-clause-get : goal.returns-clause-get
unfolding trim_ows
returns-clause-get c = refl
