use Rattle.model_rooms.proofs.TurnLemmas.{each_turn}
use Rattle.model_rooms.proofs.rooms.each_turn_is_allowed.Goals as goal

pub returns : goal.returns
returns c = each_turn
