use Rattle.std.proofs.Common.{false, [], ◌∷◌, codes, refl, arith, inl, Some, lit≤}
use Rattle.httparse.specs.Grammar.{Field, crlf, is_token_byte, print_response, trim_ows}
use Rattle.model_h1.specs.Chunked.{whole, unfinished}
use Rattle.model_h1.specs.Request.{chunked_body, keep_alive}
use Rattle.model_h1.specs.HeadPiece.{IsHeadPiece}
use Rattle.model_h1.proofs.ExampleLemmas.{plain_piece}
use Rattle.model_h1.proofs.ChunkExamples.{line as trailer, one_byte_read, one_byte_begun}
use Rattle.model_client.specs.AnswerReading.{Answer, IsTextOf}
use Rattle.model_client.specs.WrittenHead.{line_of}
use Rattle.model_client.proofs.ExampleLemmas.{plain_tree, plain_text}
use Rattle.model_client.proofs.answer_examples.body_in_chunks.Goals as goal

-- the head, with all of the body, and without its last bytes
whole_piece : IsHeadPiece (codes "HTTP/1.1 200 OK\r\ntransfer-encoding: chunked\r\n\r\n1\r\na\r\n0\r\nX: y \r\n\r\n") 0 47
whole_piece = plain_piece _ 47 refl

open_piece : IsHeadPiece (codes "HTTP/1.1 200 OK\r\ntransfer-encoding: chunked\r\n\r\n1\r\na\r\n0") 0 47
open_piece = plain_piece _ 47 refl

abbrev line : Field
line = record { name = codes "transfer-encoding"; raw = codes " chunked"; end = crlf }

abbrev answer : Answer
answer = record {
  minor = 1;
  status = 200;
  reason = codes "OK";
  headers = line_of (codes "transfer-encoding") (codes "chunked") ∷ [];
  body = chunked_body;
  connection = keep_alive;
  is_lax = false;
}

is_text : IsTextOf (codes "HTTP/1.1 200 OK\r\ntransfer-encoding: chunked\r\n\r\n") answer
unfolding print_response is_token_byte trim_ows
is_text = plain_text _ answer (plain_tree 1 (codes "200") (Some (codes "OK")) (line ∷ [])) refl (lit≤ tt)
    (record { spelled = refl; minor = refl; status = refl; reason = refl; headers = refl; body = refl; connection = refl })

pub returns : goal.returns
unfolding trim_ows
returns c = (
  (
    record {
      start = 0;
      end = 47;
      piece = whole_piece;
      body_start = refl;
      reading = (omega arith, inl (refl, is_text));
      body = (whole 18 (trailer ∷ []), record { start = 3; end = 4 } ∷ [], one_byte_read, refl);
    },
    refl,
  ),
  (
    record {
      start = 0;
      end = 47;
      piece = open_piece;
      body_start = refl;
      reading = (omega arith, inl (refl, is_text));
      body = (unfinished, record { start = 3; end = 4 } ∷ [], one_byte_begun, refl);
    },
    refl,
  ),
)
