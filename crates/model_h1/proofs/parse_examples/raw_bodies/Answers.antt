use Rattle.std.proofs.Common.{ℕ, false, List, [], ◌∷◌, ◌++◌, codes, Some, None, refl, arith, inl}
use Rattle.httparse.specs.Grammar.{Field, crlf, is_token_byte, print_request, trim_ows}
use Rattle.model_h1.specs.Frame.{text, unmasked_frame}
use Rattle.model_h1.specs.FrameText.{front_frame, unmask, PlacedFrame, ReadsFrames}
use Rattle.model_h1.specs.Request.{Head, raw_body, keep_alive}
use Rattle.model_h1.specs.RequestHead.{IsHeadOf}
use Rattle.model_h1.specs.Parse.{connection_reader}
use Rattle.model_h1.specs.HeadPiece.{IsHeadPiece}
use Rattle.model_h1.proofs.ExampleLemmas.{plain_piece, nothing_behind, plain_head}
use Rattle.model_h1.proofs.parse_examples.raw_bodies.Goals as goal

-- a text frame under a mask, and the first byte of another one
abbrev masked : List ℕ
masked = 0x81 ∷ 0x85 ∷ 0x37 ∷ 0xfa ∷ 0x21 ∷ 0x3d ∷ 0x7f ∷ 0x9f ∷ 0x4d ∷ 0x51 ∷ 0x58 ∷ 0x81 ∷ []

-- the head, and where it ends, with some bytes
raw_piece : IsHeadPiece (codes "GET / HTTP/1.1\r\nupgrade: websocket\r\n\r\nab") 0 38
raw_piece = plain_piece _ 38 refl

-- the same in front of frames
frames_piece : IsHeadPiece (codes "GET / HTTP/1.1\r\nupgrade: websocket\r\n\r\n" ++ masked) 0 38
frames_piece = plain_piece _ 38 refl

-- the same in front of a frame without a mask
broken_piece : IsHeadPiece (codes "GET / HTTP/1.1\r\nupgrade: websocket\r\n\r\n" ++ (0x81 ∷ 0x00 ∷ [])) 0 38
broken_piece = plain_piece _ 38 refl

-- its field line
abbrev line : Field
line = record { name = codes "upgrade"; raw = codes " websocket"; end = crlf }

-- what the head says
abbrev head : Head
head = record {
  method = codes "GET";
  target = codes "/";
  minor = 1;
  headers = record { name = codes "upgrade"; value = codes "websocket" } ∷ [];
  body = raw_body;
  connection = keep_alive;
  expects = false;
}

-- the text of the head
is_head : IsHeadOf (codes "GET / HTTP/1.1\r\nupgrade: websocket\r\n\r\n") head
unfolding print_request is_token_byte trim_ows
is_head = plain_head _ head (line ∷ []) refl
    (record { spelled = refl; target = refl; headers = refl; body = refl; connection = refl; expects = refl })

-- the frame, and the place behind it
abbrev hello : PlacedFrame
hello = record { frame = text (codes "Hello"); end = 49 }

-- the frames behind the head
reads : ReadsFrames (connection_reader 100) false 38 (codes "GET / HTTP/1.1\r\nupgrade: websocket\r\n\r\n" ++ masked) (hello ∷ []) None
unfolding front_frame unmask
reads = (11, refl, refl, refl)

-- the rule that is broken there
breaks : ReadsFrames (connection_reader 100) false 38 (codes "GET / HTTP/1.1\r\nupgrade: websocket\r\n\r\n" ++ (0x81 ∷ 0x00 ∷ [])) [] (Some unmasked_frame)
unfolding front_frame
breaks = refl

pub returns : goal.returns
returns c = (
  (record { start = 0; end = 38; piece = raw_piece; body_start = refl; reading = inl (omega arith, (omega arith, is_head)); body = refl }, refl),
  (record { start = 0; end = 38; piece = raw_piece; body_start = refl; reading = inl (omega arith, (omega arith, is_head)); body = refl }, nothing_behind),
  (
    record {
      start = 0;
      end = 38;
      piece = frames_piece;
      body_start = refl;
      reading = inl (omega arith, (omega arith, is_head));
      body = (hello ∷ [], None, reads, refl);
    },
    refl,
  ),
  (
    record {
      start = 0;
      end = 38;
      piece = broken_piece;
      body_start = refl;
      reading = inl (omega arith, (omega arith, is_head));
      body = ([], Some unmasked_frame, breaks, refl);
    },
    refl,
  ),
)
