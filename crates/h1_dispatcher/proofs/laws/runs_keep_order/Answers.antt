use Rattle.h1_dispatcher.proofs.Orders.{run_keeps}
use Rattle.h1_dispatcher.proofs.laws.runs_keep_order.Goals as goal

pub returns : goal.returns
returns c = λ v w steps is. run_keeps v w steps is
