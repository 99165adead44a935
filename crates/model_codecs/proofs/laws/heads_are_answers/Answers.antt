use Rattle.model_codecs.proofs.Clauses.{head_answered}
use Rattle.model_codecs.proofs.laws.heads_are_answers.Goals as goal

pub returns : goal.returns
returns c old new bytes rest result item is step head left seen limit none =
    head_answered old new bytes rest item result is step head left seen limit none
