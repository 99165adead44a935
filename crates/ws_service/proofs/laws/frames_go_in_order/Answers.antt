use Rattle.ws_service.proofs.Orders.{run_keeps, run_starts}
use Rattle.ws_service.proofs.laws.frames_go_in_order.Goals as goal

pub returns-clause-runs : goal.returns-clause-runs
returns-clause-runs c = λ v w steps is. run_keeps v w steps is

pub returns-clause-starts : goal.returns-clause-starts
returns-clause-starts c = λ request traced listening transport service w steps is. run_starts request traced listening transport service w steps is
