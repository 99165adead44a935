use Rattle.ws_service.proofs.Causes.{poll_ran}
use Rattle.ws_service.proofs.laws.polls_are_runs.Goals as goal

pub returns : goal.returns
returns c = λ v w cx moment result says. poll_ran v w cx moment result says
