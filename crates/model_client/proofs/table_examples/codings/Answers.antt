use Rattle.std.proofs.Common.{refl}
use Rattle.httparse.specs.Grammar.{trim_ows}
use Rattle.model_client.proofs.table_examples.codings.Goals as goal

pub returns-clause-identity : goal.returns-clause-identity
unfolding trim_ows
returns-clause-identity c = refl

pub returns-clause-gzip : goal.returns-clause-gzip
unfolding trim_ows
returns-clause-gzip c = refl

pub returns-clause-twice : goal.returns-clause-twice
unfolding trim_ows
returns-clause-twice c = refl
