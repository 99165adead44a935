use Rattle.model_codecs.proofs.Clauses.{piece_answered}
use Rattle.model_codecs.proofs.laws.pieces_are_answers.Goals as goal

pub returns : goal.returns
returns c old new bytes rest result item is step left seen limit =
    piece_answered old new bytes rest item result is step left seen limit
