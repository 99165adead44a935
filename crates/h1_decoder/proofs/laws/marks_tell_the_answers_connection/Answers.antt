use Rattle.h1_decoder.proofs.ConnectionLemmas.{answer_marks_tell}
use Rattle.h1_decoder.proofs.laws.marks_tell_the_answers_connection.Goals as goal

pub returns : goal.returns
returns c = answer_marks_tell
