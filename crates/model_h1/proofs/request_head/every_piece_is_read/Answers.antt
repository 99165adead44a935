use Rattle.model_h1.proofs.ReadingDecisions.{reading_of, reading_within_of}
use Rattle.model_h1.proofs.request_head.every_piece_is_read.Goals as goal

pub returns-clause-of_a_piece : goal.returns-clause-of_a_piece
returns-clause-of_a_piece c = reading_of

pub returns-clause-within_a_size : goal.returns-clause-within_a_size
returns-clause-within_a_size c = reading_within_of
