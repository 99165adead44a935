use Rattle.std.proofs.Common.{false, [], ◌∷◌, codes, refl, arith, inl, Some, lit≤}
use Rattle.httparse.specs.Grammar.{Field, crlf, is_token_byte, print_response, trim_ows}
use Rattle.model_h1.specs.Request.{no_body, fixed_body, keep_alive}
use Rattle.model_h1.specs.HeadPiece.{IsHeadPiece}
use Rattle.model_h1.proofs.ExampleLemmas.{plain_piece}
use Rattle.model_client.specs.AnswerReading.{Answer, IsTextOf}
use Rattle.model_client.specs.WrittenHead.{line_of}
use Rattle.model_client.proofs.ExampleLemmas.{plain_tree, plain_text}
use Rattle.model_client.proofs.answer_examples.head_and_then_get.Goals as goal

-- where both heads stand
first_piece : IsHeadPiece (codes "HTTP/1.1 200 OK\r\ncontent-length: 3\r\n\r\nHTTP/1.1 204 No Content\r\n\r\n") 0 38
first_piece = plain_piece _ 38 refl

second_piece : IsHeadPiece (codes "HTTP/1.1 204 No Content\r\n\r\n") 0 27
second_piece = plain_piece _ 27 refl

abbrev line : Field
line = record { name = codes "content-length"; raw = codes " 3"; end = crlf }

-- what both say
abbrev first : Answer
first = record {
  minor = 1;
  status = 200;
  reason = codes "OK";
  headers = line_of (codes "content-length") (codes "3") ∷ [];
  body = fixed_body 3;
  connection = keep_alive;
  is_lax = false;
}

abbrev second : Answer
second = record { minor = 1; status = 204; reason = codes "No Content"; headers = []; body = no_body; connection = keep_alive; is_lax = false }

first_text : IsTextOf (codes "HTTP/1.1 200 OK\r\ncontent-length: 3\r\n\r\n") first
unfolding print_response is_token_byte trim_ows
first_text = plain_text _ first (plain_tree 1 (codes "200") (Some (codes "OK")) (line ∷ [])) refl (lit≤ tt)
    (record { spelled = refl; minor = refl; status = refl; reason = refl; headers = refl; body = refl; connection = refl })

second_text : IsTextOf (codes "HTTP/1.1 204 No Content\r\n\r\n") second
unfolding print_response
second_text = plain_text _ second (plain_tree 1 (codes "204") (Some (codes "No Content")) []) refl (lit≤ tt)
    (record { spelled = refl; minor = refl; status = refl; reason = refl; headers = refl; body = refl; connection = refl })

pub returns : goal.returns
returns c = (
  record { start = 0; end = 38; piece = first_piece; body_start = refl; reading = (omega arith, inl (refl, first_text)); body = refl },
  (record { start = 0; end = 27; piece = second_piece; body_start = refl; reading = (omega arith, inl (refl, second_text)); body = refl }, refl),
)
