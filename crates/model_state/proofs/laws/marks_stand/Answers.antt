use Rattle.model_state.proofs.Goes.{marks_go}
use Rattle.model_state.proofs.laws.marks_stand.Goals as goal

pub returns : goal.returns
returns c = marks_go
