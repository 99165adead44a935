use Rattle.h1_encoder.proofs.WrittenPieces.{written_read}
use Rattle.h1_encoder.proofs.laws.what_is_written_is_read.Goals as goal

pub returns : goal.returns
returns c = written_read
