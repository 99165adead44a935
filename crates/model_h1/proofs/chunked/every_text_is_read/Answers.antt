use Rattle.model_h1.proofs.Verdicts.{every_text_read}
use Rattle.model_h1.proofs.chunked.every_text_is_read.Goals as goal

pub returns : goal.returns
returns c = every_text_read
