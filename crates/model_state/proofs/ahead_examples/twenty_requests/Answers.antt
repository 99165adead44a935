use Rattle.std.proofs.Common.{refl}
use Rattle.model_state.specs.Ahead.{ahead, following}
use Rattle.model_state.proofs.ahead_examples.twenty_requests.Goals as goal

pub returns : goal.returns
unfolding ahead following
returns c = refl
