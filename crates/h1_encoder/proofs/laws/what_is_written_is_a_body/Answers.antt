use Rattle.h1_encoder.proofs.WrittenPieces.{written_body}
use Rattle.h1_encoder.proofs.laws.what_is_written_is_a_body.Goals as goal

pub returns : goal.returns
returns c = written_body
