use Rattle.h1_dispatcher.proofs.Bounds.{asks_in_room, begun_room, begun_room_noted, run_grows}
use Rattle.h1_dispatcher.proofs.laws.runs_bound_output.Goals as goal

pub returns-clause-asked : goal.returns-clause-asked
returns-clause-asked c = λ v w peer head is. asks_in_room v w peer head is

pub returns-clause-new : goal.returns-clause-new
returns-clause-new c = λ transport service settings peer listens. (begun_room transport service settings peer listens, begun_room_noted transport service settings peer listens)

pub returns-clause-runs : goal.returns-clause-runs
returns-clause-runs c = λ v u w steps step all one h run is. run_grows v u w steps step all one h run is
