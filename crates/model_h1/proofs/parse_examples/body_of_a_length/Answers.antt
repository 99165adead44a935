use Rattle.std.proofs.Common.{false, [], ◌∷◌, codes, refl, arith, inl}
use Rattle.httparse.specs.Grammar.{Field, crlf, is_token_byte, print_request, trim_ows}
use Rattle.model_h1.specs.Request.{Head, fixed_body, keep_alive}
use Rattle.model_h1.specs.RequestHead.{IsHeadOf}
use Rattle.model_h1.specs.HeadPiece.{IsHeadPiece}
use Rattle.model_h1.proofs.ExampleLemmas.{plain_piece, nothing_behind, plain_head}
use Rattle.model_h1.proofs.parse_examples.body_of_a_length.Goals as goal

-- the head, and where it ends, with all of its body
whole_piece : IsHeadPiece (codes "POST / HTTP/1.1\r\ncontent-length: 3\r\n\r\nabc") 0 38
whole_piece = plain_piece _ 38 refl

-- the same where a part of the body is there
part_piece : IsHeadPiece (codes "POST / HTTP/1.1\r\ncontent-length: 3\r\n\r\nab") 0 38
part_piece = plain_piece _ 38 refl

-- its field line
abbrev line : Field
line = record { name = codes "content-length"; raw = codes " 3"; end = crlf }

-- what the head says
abbrev head : Head
head = record {
  method = codes "POST";
  target = codes "/";
  minor = 1;
  headers = record { name = codes "content-length"; value = codes "3" } ∷ [];
  body = fixed_body 3;
  connection = keep_alive;
  expects = false;
}

-- the text of the head
is_head : IsHeadOf (codes "POST / HTTP/1.1\r\ncontent-length: 3\r\n\r\n") head
unfolding print_request is_token_byte trim_ows
is_head = plain_head _ head (line ∷ []) refl
    (record { spelled = refl; target = refl; headers = refl; body = refl; connection = refl; expects = refl })

pub returns : goal.returns
returns c = (
  (record { start = 0; end = 38; piece = whole_piece; body_start = refl; reading = inl (omega arith, (omega arith, is_head)); body = refl }, nothing_behind),
  (record { start = 0; end = 38; piece = part_piece; body_start = refl; reading = inl (omega arith, (omega arith, is_head)); body = refl }, refl),
  (record { start = 0; end = 38; piece = part_piece; body_start = refl; reading = inl (omega arith, (omega arith, is_head)); body = refl }, refl),
)
