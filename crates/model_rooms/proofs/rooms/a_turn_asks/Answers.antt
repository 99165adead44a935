use Rattle.model_rooms.proofs.AskLemmas.{each_turn_asks}
use Rattle.model_rooms.proofs.rooms.a_turn_asks.Goals as goal

pub returns : goal.returns
returns c = each_turn_asks
