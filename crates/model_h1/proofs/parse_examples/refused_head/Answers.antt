use Rattle.std.proofs.Common.{codes, refl, arith, inl, inr}
use Rattle.model_h1.specs.HeadPiece.{IsHeadPiece}
use Rattle.model_h1.proofs.ExampleLemmas.{plain_piece, method_alone_refused}
use Rattle.model_h1.proofs.parse_examples.refused_head.Goals as goal

-- the first head, and where it ends
malformed_piece : IsHeadPiece (codes "GET\r\n\r\nGET / HTTP/1.1\r\n\r\n") 0 7
malformed_piece = plain_piece _ 7 refl

-- the large head
large_piece : IsHeadPiece (codes "GET / HTTP/1.1\r\n\r\n") 0 18
large_piece = plain_piece _ 18 refl

pub returns-clause-malformed : goal.returns-clause-malformed
returns-clause-malformed c =
    (record { start = 0; end = 7; piece = malformed_piece; body_start = refl; reading = inl (omega arith, method_alone_refused); body = refl }, refl)

pub returns-clause-too_large : goal.returns-clause-too_large
returns-clause-too_large c =
    (record { start = 0; end = 18; piece = large_piece; body_start = refl; reading = inr (omega arith, refl); body = refl }, refl)
