use Rattle.model_ends.proofs.Agreement.{fair_ends}
use Rattle.model_ends.proofs.laws.a_client_finds_nothing_wrong.Goals as goal

pub returns : goal.returns
returns c client server asked kept served end connected plain closing = fair_ends client server asked kept served end connected plain closing
