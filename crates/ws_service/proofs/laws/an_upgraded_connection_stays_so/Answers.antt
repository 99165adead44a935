use Rattle.ws_service.proofs.Stays.{run_stays, poll_live}
use Rattle.ws_service.proofs.laws.an_upgraded_connection_stays_so.Goals as goal

pub returns-clause-runs : goal.returns-clause-runs
returns-clause-runs c = λ v w steps trace stands noted is live. run_stays v w steps trace stands noted is live

pub returns-clause-polls : goal.returns-clause-polls
returns-clause-polls c = λ v w cx moment trace stands live says. poll_live v w cx moment trace stands live says
