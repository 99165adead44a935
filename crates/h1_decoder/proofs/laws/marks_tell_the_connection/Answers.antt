use Rattle.h1_decoder.proofs.ConnectionLemmas.{marks_tell}
use Rattle.h1_decoder.proofs.laws.marks_tell_the_connection.Goals as goal

pub returns : goal.returns
returns c = marks_tell
