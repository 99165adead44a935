use Rattle.model_state.proofs.Order.{chunk_in_order}
use Rattle.model_state.proofs.laws.pieces_are_in_order.Goals as goal

pub returns : goal.returns
returns c = chunk_in_order
