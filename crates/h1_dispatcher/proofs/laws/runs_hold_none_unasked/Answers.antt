use Rattle.std.proofs.Common.{refl}
use Rattle.h1_dispatcher.proofs.Unheld.{run_unheld, polls_unheld}
use Rattle.h1_dispatcher.proofs.laws.runs_hold_none_unasked.Goals as goal

pub returns-clause-new : goal.returns-clause-new
returns-clause-new c = λ transport service settings peer noted listens. record { upgrades = refl; expects = refl; holding = refl; checking = refl }

pub returns-clause-runs : goal.returns-clause-runs
returns-clause-runs c = λ v w steps asks is none. run_unheld v w steps asks is none

pub returns-clause-polls : goal.returns-clause-polls
returns-clause-polls c = λ v w acts says none. polls_unheld v w acts says none
