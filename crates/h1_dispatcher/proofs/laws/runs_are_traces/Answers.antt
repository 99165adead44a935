use Rattle.h1_dispatcher.proofs.Traces.{run_follows, begun_marked, begun_counted}
use Rattle.h1_dispatcher.proofs.laws.runs_are_traces.Goals as goal

pub returns-clause-runs : goal.returns-clause-runs
returns-clause-runs c = λ v w steps noted is. run_follows v w steps noted is

pub returns-clause-marks : goal.returns-clause-marks
returns-clause-marks c = λ transport service settings peer noted listens. begun_marked transport service settings peer noted listens

pub returns-clause-ahead : goal.returns-clause-ahead
returns-clause-ahead c = λ transport service settings peer noted listens. begun_counted transport service settings peer noted listens
