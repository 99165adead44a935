use Rattle.ws_service.proofs.Ends.{none_left}
use Rattle.ws_service.proofs.Orders.{all_answered}
use Rattle.ws_service.proofs.laws.the_end_is_told_behind_all_frames.Goals as goal

pub returns-clause-left : goal.returns-clause-left
returns-clause-left c = λ v w trace stands is. none_left v w trace stands is

pub returns-clause-answered : goal.returns-clause-answered
returns-clause-answered c = λ request traced listening transport service v w steps run is. all_answered request traced listening transport service v w steps run is
