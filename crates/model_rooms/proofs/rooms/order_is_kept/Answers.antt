use Rattle.model_rooms.proofs.OrderLemmas.{in_order}
use Rattle.model_rooms.proofs.rooms.order_is_kept.Goals as goal

pub returns : goal.returns
returns c = in_order
