use Rattle.ws_service.proofs.Lacks.{run_notes}
use Rattle.ws_service.proofs.laws.runs_note_traces.Goals as goal

pub returns : goal.returns
returns c = λ v u w steps step trace stands noted run lacks is. run_notes v u w steps step trace stands noted run lacks is
