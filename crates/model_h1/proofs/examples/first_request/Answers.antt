-- The head's text is written out; each class of bytes is a test that computes.
use Rattle.std.proofs.Common.{ℕ, false, List, [], ◌∷◌, codes, refl, arith, inl}
use Rattle.httparse.specs.Grammar.{Field, crlf, is_token_byte, print_request, trim_ows}
use Rattle.model_h1.specs.Request.{Head, no_body, keep_alive}
use Rattle.model_h1.specs.RequestHead.{IsHeadOf}
use Rattle.model_h1.specs.HeadPiece.{IsHeadPiece}
use Rattle.model_h1.proofs.ExampleLemmas.{plain_piece, nothing_behind, plain_head}
use Rattle.model_h1.proofs.examples.first_request.Goals as goal

-- the bytes of the example
abbrev text : List ℕ
text = codes "GET / HTTP/1.1\r\nhost: a\r\n\r\n"

-- the head, and where it ends
piece : IsHeadPiece text 0 27
piece = plain_piece _ 27 refl

-- its field line
abbrev host : Field
host = record { name = codes "host"; raw = codes " a"; end = crlf }

-- what the head says
abbrev head : Head
head = record {
  method = codes "GET";
  target = codes "/";
  minor = 1;
  headers = record { name = codes "host"; value = codes "a" } ∷ [];
  body = no_body;
  connection = keep_alive;
  expects = false;
}

-- the text of the head
is_head : IsHeadOf text head
unfolding print_request is_token_byte trim_ows
is_head = plain_head text head (host ∷ []) refl
    (record { spelled = refl; target = refl; headers = refl; body = refl; connection = refl; expects = refl })

pub returns : goal.returns
returns c =
    (record { start = 0; end = 27; piece = piece; body_start = refl; reading = inl (omega arith, (omega arith, is_head)); body = refl }, nothing_behind)
