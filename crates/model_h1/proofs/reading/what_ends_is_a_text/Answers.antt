use Rattle.model_h1.proofs.Sound.{ended_is_text}
use Rattle.model_h1.proofs.reading.what_ends_is_a_text.Goals as goal

pub returns : goal.returns
returns c = ended_is_text
