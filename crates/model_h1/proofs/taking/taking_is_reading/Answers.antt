use Rattle.model_h1.proofs.TakenReads.{taken_is_read}
use Rattle.model_h1.proofs.taking.taking_is_reading.Goals as goal

pub returns : goal.returns
returns c = λ p bytes z. taken_is_read bytes p z
