use Rattle.std.proofs.Common.{false, [], ◌∷◌, codes, refl, arith, inl, Some, lit≤}
use Rattle.httparse.specs.Grammar.{Field, crlf, is_token_byte, print_response, trim_ows}
use Rattle.model_h1.specs.Request.{fixed_body, keep_alive}
use Rattle.model_h1.specs.HeadPiece.{IsHeadPiece}
use Rattle.model_h1.proofs.ExampleLemmas.{plain_piece}
use Rattle.model_client.specs.AnswerReading.{Answer, IsTextOf}
use Rattle.model_client.specs.WrittenHead.{line_of}
use Rattle.model_client.proofs.ExampleLemmas.{plain_tree, plain_text}
use Rattle.model_client.proofs.answer_examples.body_of_a_length.Goals as goal

-- the head, with all of the body, and with two bytes of it
whole_piece : IsHeadPiece (codes "HTTP/1.1 200 OK\r\ncontent-length: 3\r\n\r\nabc") 0 38
whole_piece = plain_piece _ 38 refl

cut_piece : IsHeadPiece (codes "HTTP/1.1 200 OK\r\ncontent-length: 3\r\n\r\nab") 0 38
cut_piece = plain_piece _ 38 refl

abbrev line : Field
line = record { name = codes "content-length"; raw = codes " 3"; end = crlf }

abbrev answer : Answer
answer = record {
  minor = 1;
  status = 200;
  reason = codes "OK";
  headers = line_of (codes "content-length") (codes "3") ∷ [];
  body = fixed_body 3;
  connection = keep_alive;
  is_lax = false;
}

is_text : IsTextOf (codes "HTTP/1.1 200 OK\r\ncontent-length: 3\r\n\r\n") answer
unfolding print_response is_token_byte trim_ows
is_text = plain_text _ answer (plain_tree 1 (codes "200") (Some (codes "OK")) (line ∷ [])) refl (lit≤ tt)
    (record { spelled = refl; minor = refl; status = refl; reason = refl; headers = refl; body = refl; connection = refl })

pub returns : goal.returns
returns c = (
  (record { start = 0; end = 38; piece = whole_piece; body_start = refl; reading = (omega arith, inl (refl, is_text)); body = refl }, refl),
  (record { start = 0; end = 38; piece = cut_piece; body_start = refl; reading = (omega arith, inl (refl, is_text)); body = refl }, refl),
)
