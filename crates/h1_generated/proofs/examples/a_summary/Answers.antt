use Rattle.std.proofs.Common.{refl}
use Rattle.std.specs.Fmt.{digits}
use Rattle.h1_generated.proofs.examples.a_summary.Goals as goal

pub returns : goal.returns
unfolding digits
returns c = refl
