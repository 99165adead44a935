use Rattle.model_rooms.proofs.SendLemmas.{none_refused}
use Rattle.model_rooms.proofs.rooms.no_send_is_refused.Goals as goal

pub returns : goal.returns
returns c = none_refused
