use Rattle.model_h1.proofs.MessageLemmas.{messages_unique}
use Rattle.model_h1.proofs.parse.parse_is_unique.Goals as goal

pub returns : goal.returns
returns c i a b x y = messages_unique i 0 a b x y
