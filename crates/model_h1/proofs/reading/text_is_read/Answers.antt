use Rattle.model_h1.proofs.Complete.{text_read}
use Rattle.model_h1.proofs.reading.text_is_read.Goals as goal

pub returns : goal.returns
returns c = text_read
