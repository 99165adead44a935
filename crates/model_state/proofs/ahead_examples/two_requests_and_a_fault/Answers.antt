use Rattle.std.proofs.Common.{refl}
use Rattle.model_state.specs.Ahead.{ahead, following}
use Rattle.model_state.proofs.ahead_examples.two_requests_and_a_fault.Goals as goal

pub returns : goal.returns
unfolding ahead following
returns c = (refl, refl, refl, refl)
