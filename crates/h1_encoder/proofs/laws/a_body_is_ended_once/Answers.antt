use Rattle.h1_encoder.proofs.BodyText.{chunks_all, chunks_up_to, length_all, raw_all}
use Rattle.h1_encoder.proofs.laws.a_body_is_ended_once.Goals as goal

pub returns : goal.returns
returns c = record { chunks = chunks_all; by_an_empty_piece = chunks_up_to; stated = length_all; raw = raw_all }
