use Rattle.std.proofs.Common.{refl}
use Rattle.httparse.specs.Grammar.{trim_ows}
use Rattle.model_h1.proofs.head_examples.connect_is_raw.Goals as goal

pub returns-clause-raw : goal.returns-clause-raw
returns-clause-raw c = refl

pub returns-clause-no_length : goal.returns-clause-no_length
unfolding trim_ows
returns-clause-no_length c = refl
