use Rattle.model_codecs.proofs.Clauses.{item_answered}
use Rattle.model_codecs.proofs.laws.items_are_answers.Goals as goal

pub returns : goal.returns
returns c old new bytes rest result step head left seen limit = item_answered old new bytes rest result step head left seen limit
