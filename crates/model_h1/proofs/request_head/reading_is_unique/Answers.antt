use Rattle.model_h1.proofs.ReadingLemmas.{reading_unique, reading_within_unique}
use Rattle.model_h1.proofs.request_head.reading_is_unique.Goals as goal

pub returns-clause-of_a_piece : goal.returns-clause-of_a_piece
returns-clause-of_a_piece c = reading_unique

pub returns-clause-within_a_size : goal.returns-clause-within_a_size
returns-clause-within_a_size c = reading_within_unique
