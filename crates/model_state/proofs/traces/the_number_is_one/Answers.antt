use Rattle.model_state.proofs.Numbers.{number_unique}
use Rattle.model_state.proofs.traces.the_number_is_one.Goals as goal

pub returns : goal.returns
returns c = number_unique
