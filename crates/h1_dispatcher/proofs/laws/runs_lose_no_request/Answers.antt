use Rattle.h1_dispatcher.proofs.Open.{begun_tied, begun_tied_noted, run_stays}
use Rattle.h1_dispatcher.proofs.laws.runs_lose_no_request.Goals as goal

pub returns-clause-new : goal.returns-clause-new
returns-clause-new c = λ transport service settings peer listens. (begun_tied transport service settings peer listens, begun_tied_noted transport service settings peer listens)

pub returns-clause-runs : goal.returns-clause-runs
returns-clause-runs c = λ v w steps noted is t. run_stays v w steps noted is t
