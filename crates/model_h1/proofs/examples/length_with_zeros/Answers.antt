use Rattle.std.proofs.Common.{refl}
use Rattle.httparse.specs.Grammar.{trim_ows}
use Rattle.model_h1.proofs.examples.length_with_zeros.Goals as goal

pub returns : goal.returns
unfolding trim_ows
returns c = refl
