use Rattle.std.proofs.Common.{codes, refl, arith, inr}
use Rattle.model_h1.specs.HeadPiece.{IsHeadPiece}
use Rattle.model_h1.proofs.ExampleLemmas.{plain_piece}
use Rattle.model_client.proofs.answer_examples.longer_than_is_held.Goals as goal

piece : IsHeadPiece (codes "HTTP/1.1 200 OK\r\n\r\n") 0 19
piece = plain_piece _ 19 refl

pub returns : goal.returns
returns c = (record { start = 0; end = 19; piece = piece; body_start = refl; reading = inr (omega arith, refl); body = refl }, refl)
