use Rattle.model_state.proofs.Following.{following_may, following_within, following_greatest}
use Rattle.model_state.proofs.counting.following_is_greatest.Goals as goal

pub returns-clause-may : goal.returns-clause-may
returns-clause-may c = following_may

pub returns-clause-within : goal.returns-clause-within
returns-clause-within c = following_within

pub returns-clause-greatest : goal.returns-clause-greatest
returns-clause-greatest c = following_greatest
