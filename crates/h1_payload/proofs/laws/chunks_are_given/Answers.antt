use Rattle.h1_payload.proofs.Whole.{pieces_of_text}
use Rattle.h1_payload.proofs.laws.chunks_are_given.Goals as goal

pub returns : goal.returns
returns c = pieces_of_text
