use Rattle.model_state.proofs.Behind.{run_between_behind}
use Rattle.model_state.proofs.Waiting.{runs_quiet, runs_added, runs_given}
use Rattle.model_state.proofs.laws.runs_go_on.Goals as goal

pub returns-clause-quiet : goal.returns-clause-quiet
returns-clause-quiet c = runs_quiet

pub returns-clause-added : goal.returns-clause-added
returns-clause-added c = runs_added

pub returns-clause-given : goal.returns-clause-given
returns-clause-given c = runs_given

pub returns-clause-between : goal.returns-clause-between
returns-clause-between c = run_between_behind
