use Rattle.model_h1.proofs.EventLemmas.{same_events}
use Rattle.model_h1.proofs.trace.events_fix_the_trace.Goals as goal

pub returns : goal.returns
returns c = same_events
