use Rattle.model_h1.proofs.EventRuns.{run_there}
use Rattle.model_h1.proofs.runs.events_have_a_trace.Goals as goal

pub returns : goal.returns
returns c = run_there
