use Rattle.h1_generated.proofs.Runs.{allowed}
use Rattle.h1_generated.proofs.generated.generated_is_allowed.Goals as goal

pub returns : goal.returns
returns c = allowed
