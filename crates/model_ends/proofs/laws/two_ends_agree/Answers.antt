use Rattle.model_ends.proofs.Agreement.{ends_agree}
use Rattle.model_ends.proofs.laws.two_ends_agree.Goals as goal

pub returns : goal.returns
returns c client server asked kept served connected plain = ends_agree client server asked kept served connected plain
