use Rattle.h1_dispatcher.proofs.Peers.{run_tells}
use Rattle.h1_dispatcher.proofs.laws.runs_tell_the_peer.Goals as goal

pub returns-clause-new : goal.returns-clause-new
returns-clause-new c = λ transport service settings peer noted listens. tt

pub returns-clause-runs : goal.returns-clause-runs
returns-clause-runs c = λ v w steps is waits. run_tells v w steps is waits
