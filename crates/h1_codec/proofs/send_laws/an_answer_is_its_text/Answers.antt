use Rattle.h1_codec.proofs.AnswerTexts.{answer_text}
use Rattle.h1_codec.proofs.send_laws.an_answer_is_its_text.Goals as goal

pub returns : goal.returns
returns c = answer_text
