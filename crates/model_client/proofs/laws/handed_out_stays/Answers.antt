use Rattle.model_client.proofs.Stays.{prefix_stays}
use Rattle.model_client.proofs.laws.handed_out_stays.Goals as goal

pub returns : goal.returns
returns c r s more methods extra size out ms ns bytes held ended x y few prefix = prefix_stays r s more methods extra size out ms ns bytes held ended x y few prefix
