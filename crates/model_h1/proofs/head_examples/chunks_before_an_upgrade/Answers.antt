use Rattle.std.proofs.Common.{refl}
use Rattle.httparse.specs.Grammar.{trim_ows}
use Rattle.model_h1.proofs.head_examples.chunks_before_an_upgrade.Goals as goal

pub returns : goal.returns
unfolding trim_ows
returns c = refl
