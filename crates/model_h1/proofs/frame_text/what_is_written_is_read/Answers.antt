use Rattle.model_h1.proofs.FrameWritten.{read_back}
use Rattle.model_h1.proofs.frame_text.what_is_written_is_read.Goals as goal

pub returns : goal.returns
returns c = read_back
