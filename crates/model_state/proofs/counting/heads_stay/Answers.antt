use Rattle.model_state.proofs.Following.{ahead_stand, stand_stay}
use Rattle.model_state.proofs.counting.heads_stay.Goals as goal

pub returns-clause-stand : goal.returns-clause-stand
returns-clause-stand c = ahead_stand

pub returns-clause-stay : goal.returns-clause-stay
returns-clause-stay c = stand_stay
