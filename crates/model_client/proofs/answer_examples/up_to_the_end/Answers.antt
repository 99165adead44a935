use Rattle.std.proofs.Common.{false, [], codes, refl, arith, inl, Some, lit≤}
use Rattle.httparse.specs.Grammar.{print_response}
use Rattle.model_h1.specs.Request.{raw_body, close}
use Rattle.model_h1.specs.HeadPiece.{IsHeadPiece}
use Rattle.model_h1.proofs.ExampleLemmas.{plain_piece}
use Rattle.model_client.specs.AnswerReading.{Answer, IsTextOf}
use Rattle.model_client.proofs.ExampleLemmas.{plain_tree, plain_text}
use Rattle.model_client.proofs.answer_examples.up_to_the_end.Goals as goal

piece : IsHeadPiece (codes "HTTP/1.1 200 OK\r\n\r\nabc") 0 19
piece = plain_piece _ 19 refl

abbrev answer : Answer
answer = record { minor = 1; status = 200; reason = codes "OK"; headers = []; body = raw_body; connection = close; is_lax = false }

is_text : IsTextOf (codes "HTTP/1.1 200 OK\r\n\r\n") answer
unfolding print_response
is_text = plain_text _ answer (plain_tree 1 (codes "200") (Some (codes "OK")) []) refl (lit≤ tt)
    (record { spelled = refl; minor = refl; status = refl; reason = refl; headers = refl; body = refl; connection = refl })

pub returns : goal.returns
returns c = (
  (record { start = 0; end = 19; piece = piece; body_start = refl; reading = (omega arith, inl (refl, is_text)); body = refl }, refl),
  (record { start = 0; end = 19; piece = piece; body_start = refl; reading = (omega arith, inl (refl, is_text)); body = refl }, refl),
)
