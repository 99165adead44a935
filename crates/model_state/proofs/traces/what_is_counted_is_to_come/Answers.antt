use Rattle.model_state.proofs.Counts.{counted_there, counted_next}
use Rattle.model_state.proofs.traces.what_is_counted_is_to_come.Goals as goal

pub returns-clause-there : goal.returns-clause-there
returns-clause-there c = counted_there

pub returns-clause-next : goal.returns-clause-next
returns-clause-next c = counted_next
