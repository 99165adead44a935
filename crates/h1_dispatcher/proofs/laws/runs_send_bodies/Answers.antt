use Rattle.h1_dispatcher.proofs.Bodies.{run_sends, reply_sends}
use Rattle.h1_dispatcher.proofs.Faults.{fault_ends}
use Rattle.h1_dispatcher.proofs.Moves.{leaves_room}
use Rattle.h1_dispatcher.proofs.laws.runs_send_bodies.Goals as goal

pub returns-clause-runs : goal.returns-clause-runs
returns-clause-runs c = λ v w steps is. run_sends v w steps is

pub returns-clause-answers : goal.returns-clause-answers
returns-clause-answers c = λ v w answer steps is. reply_sends v w answer steps is

pub returns-clause-bounded : goal.returns-clause-bounded
returns-clause-bounded c = λ v left piece polls. leaves_room _ _ polls.allowed

pub returns-clause-failed : goal.returns-clause-failed
returns-clause-failed c = λ v w number steps trace stands noted is. fault_ends v w number steps trace stands noted is
