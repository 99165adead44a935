use Rattle.std.proofs.Common.{refl}
use Rattle.httparse.specs.Grammar.{trim_ows}
use Rattle.model_h1.proofs.examples.signed_length.Goals as goal

pub returns : goal.returns
unfolding trim_ows
returns c = refl
