use Rattle.model_h1.proofs.HeadPieceLemmas.{head_piece_append}
use Rattle.model_h1.proofs.head_piece.head_piece_stays.Goals as goal

pub returns : goal.returns
returns c = head_piece_append
