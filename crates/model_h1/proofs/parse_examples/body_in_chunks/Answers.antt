use Rattle.std.proofs.Common.{false, [], ◌∷◌, codes, refl, arith, inl}
use Rattle.httparse.specs.Grammar.{Field, crlf, is_token_byte, print_request, trim_ows}
use Rattle.model_h1.specs.Chunked.{whole, unfinished, not_chunked}
use Rattle.model_h1.specs.Request.{Head, chunked_body, keep_alive}
use Rattle.model_h1.specs.RequestHead.{IsHeadOf}
use Rattle.model_h1.specs.HeadPiece.{IsHeadPiece}
use Rattle.model_h1.proofs.ExampleLemmas.{plain_piece, nothing_behind, plain_head}
use Rattle.model_h1.proofs.ChunkExamples.{line as trailer, one_byte_read, one_byte_begun, g_read}
use Rattle.model_h1.proofs.parse_examples.body_in_chunks.Goals as goal

-- the head, and where it ends, with a whole body
whole_piece : IsHeadPiece (codes "POST / HTTP/1.1\r\ntransfer-encoding: chunked\r\n\r\n1\r\na\r\n0\r\nX: y \r\n\r\n") 0 47
whole_piece = plain_piece _ 47 refl

-- the same where no body follows
broken_piece : IsHeadPiece (codes "POST / HTTP/1.1\r\ntransfer-encoding: chunked\r\n\r\ng") 0 47
broken_piece = plain_piece _ 47 refl

-- the same where the last bytes of the body aren't there
open_piece : IsHeadPiece (codes "POST / HTTP/1.1\r\ntransfer-encoding: chunked\r\n\r\n1\r\na\r\n0") 0 47
open_piece = plain_piece _ 47 refl

-- its field line
abbrev line : Field
line = record { name = codes "transfer-encoding"; raw = codes " chunked"; end = crlf }

-- what the head says
abbrev head : Head
head = record {
  method = codes "POST";
  target = codes "/";
  minor = 1;
  headers = record { name = codes "transfer-encoding"; value = codes "chunked" } ∷ [];
  body = chunked_body;
  connection = keep_alive;
  expects = false;
}

-- the text of the head
is_head : IsHeadOf (codes "POST / HTTP/1.1\r\ntransfer-encoding: chunked\r\n\r\n") head
unfolding print_request is_token_byte trim_ows
is_head = plain_head _ head (line ∷ []) refl
    (record { spelled = refl; target = refl; headers = refl; body = refl; connection = refl; expects = refl })

pub returns : goal.returns
unfolding trim_ows
returns c = (
  (
    record {
      start = 0;
      end = 47;
      piece = whole_piece;
      body_start = refl;
      reading = inl (omega arith, (omega arith, is_head));
      body = (whole 18 (trailer ∷ []), record { start = 3; end = 4 } ∷ [], one_byte_read, refl);
    },
    nothing_behind,
  ),
  (
    record {
      start = 0;
      end = 47;
      piece = broken_piece;
      body_start = refl;
      reading = inl (omega arith, (omega arith, is_head));
      body = (not_chunked, [], g_read, refl);
    },
    refl,
  ),
  (
    record {
      start = 0;
      end = 47;
      piece = open_piece;
      body_start = refl;
      reading = inl (omega arith, (omega arith, is_head));
      body = (unfinished, record { start = 3; end = 4 } ∷ [], one_byte_begun, refl);
    },
    refl,
  ),
)
