use Rattle.std.proofs.Common.{refl}
use Rattle.std.specs.Fmt.{digits}
use Rattle.model_h1.proofs.examples.one_chunk.Goals as goal

pub returns : goal.returns
unfolding digits
returns c = refl
