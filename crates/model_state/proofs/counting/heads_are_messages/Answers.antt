use Rattle.model_state.proofs.Following.{ahead_readings, ahead_count}
use Rattle.model_state.proofs.counting.heads_are_messages.Goals as goal

pub returns-clause-readings : goal.returns-clause-readings
returns-clause-readings c = ahead_readings

pub returns-clause-count : goal.returns-clause-count
returns-clause-count c = ahead_count
