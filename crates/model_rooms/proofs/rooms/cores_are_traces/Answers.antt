use Rattle.model_rooms.proofs.StepViews.{core_is_trace}
use Rattle.model_rooms.proofs.rooms.cores_are_traces.Goals as goal

pub returns : goal.returns
returns c = core_is_trace
