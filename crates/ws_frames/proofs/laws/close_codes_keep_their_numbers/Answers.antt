use Rattle.ws_frames.proofs.CloseLemmas.{number_of_code}
use Rattle.ws_frames.proofs.laws.close_codes_keep_their_numbers.Goals as goal

pub returns : goal.returns
returns c = number_of_code
