use Rattle.std.proofs.Common.{false, [], codes, refl, arith, inl, Some, lit≤}
use Rattle.httparse.specs.Grammar.{print_response}
use Rattle.model_h1.specs.Request.{no_body, keep_alive}
use Rattle.model_h1.specs.HeadPiece.{IsHeadPiece}
use Rattle.model_h1.proofs.ExampleLemmas.{plain_piece}
use Rattle.model_client.specs.AnswerReading.{Answer, IsTextOf}
use Rattle.model_client.proofs.ExampleLemmas.{plain_tree, plain_text}
use Rattle.model_client.proofs.answer_examples.continue_and_then_the_answer.Goals as goal

-- where both heads stand
first_piece : IsHeadPiece (codes "HTTP/1.1 100 Continue\r\n\r\nHTTP/1.1 204 No Content\r\n\r\n") 0 25
first_piece = plain_piece _ 25 refl

second_piece : IsHeadPiece (codes "HTTP/1.1 204 No Content\r\n\r\n") 0 27
second_piece = plain_piece _ 27 refl

-- what both say
abbrev first : Answer
first = record { minor = 1; status = 100; reason = codes "Continue"; headers = []; body = no_body; connection = keep_alive; is_lax = false }

abbrev second : Answer
second = record { minor = 1; status = 204; reason = codes "No Content"; headers = []; body = no_body; connection = keep_alive; is_lax = false }

first_text : IsTextOf (codes "HTTP/1.1 100 Continue\r\n\r\n") first
unfolding print_response
first_text = plain_text _ first (plain_tree 1 (codes "100") (Some (codes "Continue")) []) refl (lit≤ tt)
    (record { spelled = refl; minor = refl; status = refl; reason = refl; headers = refl; body = refl; connection = refl })

second_text : IsTextOf (codes "HTTP/1.1 204 No Content\r\n\r\n") second
unfolding print_response
second_text = plain_text _ second (plain_tree 1 (codes "204") (Some (codes "No Content")) []) refl (lit≤ tt)
    (record { spelled = refl; minor = refl; status = refl; reason = refl; headers = refl; body = refl; connection = refl })

pub returns : goal.returns
returns c = (
  (
    record { start = 0; end = 25; piece = first_piece; body_start = refl; reading = (omega arith, inl (refl, first_text)); body = refl },
    (record { start = 0; end = 27; piece = second_piece; body_start = refl; reading = (omega arith, inl (refl, second_text)); body = refl }, refl),
  ),
  (record { start = 0; end = 25; piece = first_piece; body_start = refl; reading = (omega arith, inl (refl, first_text)); body = refl }, refl),
)
