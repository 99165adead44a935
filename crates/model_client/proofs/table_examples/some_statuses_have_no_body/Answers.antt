use Rattle.std.proofs.Common.{refl}
use Rattle.httparse.specs.Grammar.{trim_ows}
use Rattle.model_client.proofs.table_examples.some_statuses_have_no_body.Goals as goal

pub returns-clause-no_content : goal.returns-clause-no_content
unfolding trim_ows
returns-clause-no_content c = refl

pub returns-clause-not_modified : goal.returns-clause-not_modified
unfolding trim_ows
returns-clause-not_modified c = refl

pub returns-clause-ok : goal.returns-clause-ok
unfolding trim_ows
returns-clause-ok c = refl
