use Rattle.model_h1.proofs.ClosingLemmas.{reason_kept}
use Rattle.model_h1.proofs.trace.closing_keeps_its_reason.Goals as goal

pub returns : goal.returns
returns c = reason_kept
