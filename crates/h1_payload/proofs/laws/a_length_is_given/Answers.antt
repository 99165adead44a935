use Rattle.h1_payload.proofs.Whole.{pieces_of_length}
use Rattle.h1_payload.proofs.laws.a_length_is_given.Goals as goal

pub returns : goal.returns
returns c = pieces_of_length
