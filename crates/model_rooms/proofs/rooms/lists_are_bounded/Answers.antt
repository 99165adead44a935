use Rattle.model_rooms.proofs.GoodHubs.{all_good}
use Rattle.model_rooms.proofs.rooms.lists_are_bounded.Goals as goal

pub returns-clause-frames : goal.returns-clause-frames
returns-clause-frames c setting seen i x = (all_good setting seen x i).most

pub returns-clause-closes : goal.returns-clause-closes
returns-clause-closes c setting seen i x = (all_good setting seen x i).one_close
