use Rattle.h1_dispatcher.proofs.Lacks.{run_notes}
use Rattle.h1_dispatcher.proofs.laws.runs_note_traces.Goals as goal

pub returns : goal.returns
returns c = run_notes
