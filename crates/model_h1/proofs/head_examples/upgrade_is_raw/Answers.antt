use Rattle.std.proofs.Common.{refl}
use Rattle.httparse.specs.Grammar.{trim_ows}
use Rattle.model_h1.proofs.head_examples.upgrade_is_raw.Goals as goal

pub returns : goal.returns
unfolding trim_ows
returns c = refl
