use Rattle.std.proofs.Common.{ℕ, false, List, [], codes, refl, arith, inl}
use Rattle.httparse.specs.Grammar.{is_token_byte, print_request}
use Rattle.model_h1.specs.Request.{Head, no_body, close, keep_alive}
use Rattle.model_h1.specs.RequestHead.{IsHeadOf}
use Rattle.model_h1.specs.HeadPiece.{IsHeadPiece}
use Rattle.model_h1.proofs.ExampleLemmas.{plain_piece, nothing_behind, plain_head}
use Rattle.model_h1.proofs.parse_examples.two_requests.Goals as goal

-- the bytes of the second head
abbrev second_text : List ℕ
second_text = codes "HEAD / HTTP/1.0\r\n\r\n"

-- all bytes
abbrev text : List ℕ
text = codes "GET / HTTP/1.1\r\n\r\nHEAD / HTTP/1.0\r\n\r\n"

-- the first head, and where it ends
first_piece : IsHeadPiece text 0 18
first_piece = plain_piece _ 18 refl

-- the second one
second_piece : IsHeadPiece second_text 0 19
second_piece = plain_piece _ 19 refl

-- what the first head says
abbrev first_head : Head
first_head =
    record { method = codes "GET"; target = codes "/"; minor = 1; headers = []; body = no_body; connection = keep_alive; expects = false }

-- what the second one says
abbrev second_head : Head
second_head =
    record { method = codes "HEAD"; target = codes "/"; minor = 0; headers = []; body = no_body; connection = close; expects = false }

-- the text of the first head
first_is_head : IsHeadOf (codes "GET / HTTP/1.1\r\n\r\n") first_head
unfolding print_request is_token_byte
first_is_head = plain_head _ first_head [] refl
    (record { spelled = refl; target = refl; headers = refl; body = refl; connection = refl; expects = refl })

-- the text of the second one
second_is_head : IsHeadOf second_text second_head
unfolding print_request is_token_byte
second_is_head = plain_head _ second_head [] refl
    (record { spelled = refl; target = refl; headers = refl; body = refl; connection = refl; expects = refl })

pub returns : goal.returns
returns c = (
  record { start = 0; end = 18; piece = first_piece; body_start = refl; reading = inl (omega arith, (omega arith, first_is_head)); body = refl },
  (
    record { start = 0; end = 19; piece = second_piece; body_start = refl; reading = inl (omega arith, (omega arith, second_is_head)); body = refl },
    nothing_behind,
  ),
)
