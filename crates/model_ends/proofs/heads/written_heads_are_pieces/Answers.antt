use Rattle.model_ends.proofs.HeadText.{response_is_piece, request_is_piece}
use Rattle.model_ends.proofs.heads.written_heads_are_pieces.Goals as goal

pub returns-clause-answer : goal.returns-clause-answer
returns-clause-answer c = response_is_piece

pub returns-clause-request : goal.returns-clause-request
returns-clause-request c = request_is_piece
