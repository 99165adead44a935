use Rattle.model_rooms.proofs.GoodHubs.{all_good}
use Rattle.model_rooms.proofs.rooms.sent_and_waiting_are_due.Goals as goal

pub returns : goal.returns
returns c = λ setting seen i x. (all_good setting seen x i).due_is
