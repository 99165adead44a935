use Rattle.model_rooms.proofs.HubLemmas.{same_hub}
use Rattle.model_rooms.proofs.rooms.events_fix_the_trace.Goals as goal

pub returns : goal.returns
returns c = same_hub
