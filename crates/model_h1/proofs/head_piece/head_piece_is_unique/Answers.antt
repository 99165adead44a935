use Rattle.model_h1.proofs.HeadPieceLemmas.{head_piece_unique}
use Rattle.model_h1.proofs.head_piece.head_piece_is_unique.Goals as goal

pub returns : goal.returns
returns c = head_piece_unique
