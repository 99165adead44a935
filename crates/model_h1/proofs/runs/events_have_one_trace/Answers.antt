use Rattle.model_h1.proofs.EventRuns.{one_whole, one_stop, whole_or_stopped}
use Rattle.model_h1.proofs.runs.events_have_one_trace.Goals as goal

pub returns-clause-whole : goal.returns-clause-whole
returns-clause-whole c = one_whole

pub returns-clause-stopped : goal.returns-clause-stopped
returns-clause-stopped c = one_stop

pub returns-clause-not_both : goal.returns-clause-not_both
returns-clause-not_both c = whole_or_stopped
