use Rattle.std.proofs.Common.{refl, arith, inr}
use Rattle.model_h1.proofs.head_examples.longer_than_is_held.Goals as goal

pub returns : goal.returns
returns c = inr (omega arith, refl)
