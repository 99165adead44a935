-- The parses of the requests that the worked examples of traces share.
use Rattle.std.proofs.Common.{◌≡◌, ℕ, ◌+◌, Bool, true, false, not, ◌&&◌, List, [], ◌∷◌, ◌++◌, length, slice_range, codes, Option, Some, None, ◌==◌, refl, sym, ◌∙◌, subst, arith, inl}
use Rattle.std.proofs.lemmas.Bool.{agree_below, agree_below_at, and_parts, not-true, eqb-false, false≢true}
use Rattle.httparse.specs.Grammar.{Field, crlf, is_token_byte, print_request, trim_ows}
use Rattle.model_h1.specs.Chunked.{whole, unfinished, not_chunked}
use Rattle.model_h1.specs.Frame.{unmasked_frame}
use Rattle.model_h1.specs.FrameText.{front_frame, ReadsFrames}
use Rattle.model_h1.specs.HeadPiece.{EndsBlank, IsHeadPiece, HasNoHeadPiece}
use Rattle.model_h1.specs.RequestHead.{IsHeadOf}
use Rattle.model_h1.specs.Parse.{Input, IsParse, connection_reader}
use Rattle.model_h1.specs.Laws.ExampleTraces.{get_text, get_head, get, close_text, close_head, closing_get, post_text, post_head, open_post, chunks_text, chunks_head, open_chunks, rest_of_chunks, whole_chunks, broken_text, broken_chunks, socket_text, socket_head, socket, accepted_socket, broken_socket, refused}
use Rattle.model_h1.proofs.BlankLemmas.{begins_no_cr, ends_blank_true}
use Rattle.model_h1.proofs.HeadPieceLemmas.{ends_behind, start_unique}
use Rattle.model_h1.proofs.ExampleLemmas.{plain_piece, nothing_behind, plain_head, method_alone_refused}
use Rattle.model_h1.proofs.ChunkExamples.{line as trailer_line, one_byte_read, one_byte_begun, g_read}

-- what is parsed, where a connection holds as much as it usually does
abbrev pub input : List ℕ → Option ℕ → Bool → Input
input bytes upgraded ended = record { bytes = bytes; upgraded = upgraded; ended = ended; hold_size = 131072 }

-- ---- no head

-- the bytes have no empty line in front, and nowhere end with one
abbrev pub is_begun : List ℕ → Bool
is_begun (b ∷ c ∷ text) =
    not (b == 10) && (not (b == 13) && agree_below (ends_behind (b ∷ c ∷ text) 0) (λ _. false) (length (b ∷ c ∷ text) + 1))
is_begun _ = false

-- a number that isn't another, read off the test
other_read : (a b : ℕ) → not (a == b) ≡ true → a ≡ b → ⊥
other_read a b e = eqb-false a b (not-true (a == b) e)

-- such bytes have no head
pub begun_head : (bytes : List ℕ) → is_begun bytes ≡ true → HasNoHeadPiece bytes
begun_head [] e = absurd (false≢true e)
begun_head (b ∷ []) e = absurd (false≢true e)
begun_head (b ∷ c ∷ text) e = λ start end x.
    let bytes = b ∷ c ∷ text in
    let no_line_feed = and_parts _ _ e in
    let no_return = and_parts _ _ no_line_feed.1 in
    let begins = begins_no_cr b c text (other_read b 10 no_line_feed.0) (other_read b 13 no_return.0) in
    let at_front : start ≡ 0 = start_unique bytes start 0 (omega (arith, x.ordered, x.in_range)) (omega arith) x.blank ([], refl) x.begins begins in
    let counted : end ≡ 0 + end = omega arith in
    let ends = subst (λ s. EndsBlank (slice_range bytes s end)) at_front x.ends in
    let passes = ends_blank_true _ (subst (λ e. EndsBlank (slice_range bytes 0 e)) counted ends) in
    let fails = agree_below_at (ends_behind bytes 0) (λ _. false) (length bytes + 1) end no_return.1 (omega (arith, x.in_range)) in
    false≢true (sym fails ∙ passes)

-- a head without its last byte is none
pub begun_parsed : IsParse (record { bytes = codes "GET / HTTP/1.1\r\n\r"; upgraded = None; ended = false; hold_size = 17 }) []
begun_parsed = begun_head _ refl

-- ---- requests without a body

-- the field line, as it is spelled
abbrev host_line : Field
host_line = record { name = codes "host"; raw = codes " a"; end = crlf }

-- the text of the head
get_is_head : IsHeadOf get_text get_head
unfolding print_request is_token_byte trim_ows
get_is_head = plain_head _ get_head (host_line ∷ []) refl
    (record { spelled = refl; target = refl; headers = refl; body = refl; connection = refl; expects = refl })

-- where it ends
get_piece : IsHeadPiece get_text 0 27
get_piece = plain_piece _ 27 refl

-- the request, also where the input has ended
pub get_parsed : (ended : Bool) → IsParse (input get_text None ended) (get ∷ [])
get_parsed ended = (
  record {
    start = 0;
    end = 27;
    piece = get_piece;
    body_start = refl;
    reading = inl (omega arith, (omega arith, get_is_head));
    body = refl;
  },
  nothing_behind,
)

-- where it ends in front of the next one
next_piece : IsHeadPiece (get_text ++ codes "GE") 0 27
next_piece = plain_piece _ 27 refl

-- the request, where the next one has begun
pub next_parsed : IsParse (input (get_text ++ codes "GE") None false) (get ∷ [])
next_parsed = (
  record {
    start = 0;
    end = 27;
    piece = next_piece;
    body_start = refl;
    reading = inl (omega arith, (omega arith, get_is_head));
    body = refl;
  },
  begun_head _ refl,
)

-- the field line of one that asks to close
abbrev close_line : Field
close_line = record { name = codes "connection"; raw = codes " close"; end = crlf }

-- the text of its head
close_is_head : IsHeadOf close_text close_head
unfolding print_request is_token_byte trim_ows
close_is_head = plain_head _ close_head (close_line ∷ []) refl
    (record { spelled = refl; target = refl; headers = refl; body = refl; connection = refl; expects = refl })

-- where it ends
close_piece : IsHeadPiece close_text 0 37
close_piece = plain_piece _ 37 refl

-- the request
pub close_parsed : IsParse (input close_text None false) (closing_get ∷ [])
close_parsed = (
  record {
    start = 0;
    end = 37;
    piece = close_piece;
    body_start = refl;
    reading = inl (omega arith, (omega arith, close_is_head));
    body = refl;
  },
  nothing_behind,
)

-- a method alone
refused_piece : IsHeadPiece (codes "GET\r\n\r\n") 0 7
refused_piece = plain_piece _ 7 refl

-- it is refused
pub refused_parsed : IsParse (input (codes "GET\r\n\r\n") None false) (refused ∷ [])
refused_parsed =
    (record { start = 0; end = 7; piece = refused_piece; body_start = refl; reading = inl (omega arith, method_alone_refused); body = refl }, refl)

-- ---- requests with a body

-- the field line that states a length
abbrev length_line : Field
length_line = record { name = codes "content-length"; raw = codes " 3"; end = crlf }

-- the text of the head
post_is_head : IsHeadOf (codes "POST / HTTP/1.1\r\ncontent-length: 3\r\n\r\n") post_head
unfolding print_request is_token_byte trim_ows
post_is_head = plain_head _ post_head (length_line ∷ []) refl
    (record { spelled = refl; target = refl; headers = refl; body = refl; connection = refl; expects = refl })

-- where it ends
post_piece : IsHeadPiece post_text 0 38
post_piece = plain_piece _ 38 refl

-- the request, with two bytes of its body
pub post_parsed : IsParse (input post_text None false) (open_post ∷ [])
post_parsed = (
  record {
    start = 0;
    end = 38;
    piece = post_piece;
    body_start = refl;
    reading = inl (omega arith, (omega arith, post_is_head));
    body = refl;
  },
  refl,
)

-- the field line that says chunked
abbrev chunked_line : Field
chunked_line = record { name = codes "transfer-encoding"; raw = codes " chunked"; end = crlf }

-- the text of the head
chunks_is_head : IsHeadOf (codes "POST / HTTP/1.1\r\ntransfer-encoding: chunked\r\n\r\n") chunks_head
unfolding print_request is_token_byte trim_ows
chunks_is_head = plain_head _ chunks_head (chunked_line ∷ []) refl
    (record { spelled = refl; target = refl; headers = refl; body = refl; connection = refl; expects = refl })

-- where it ends, in front of an unfinished body
open_piece : IsHeadPiece chunks_text 0 47
open_piece = plain_piece _ 47 refl

-- in front of a whole one
whole_piece : IsHeadPiece (chunks_text ++ rest_of_chunks) 0 47
whole_piece = plain_piece _ 47 refl

-- and in front of a byte that begins none
broken_piece : IsHeadPiece broken_text 0 47
broken_piece = plain_piece _ 47 refl

-- the request, with a body that may go on
pub chunks_parsed : IsParse (input chunks_text None false) (open_chunks ∷ [])
chunks_parsed = (
  record {
    start = 0;
    end = 47;
    piece = open_piece;
    body_start = refl;
    reading = inl (omega arith, (omega arith, chunks_is_head));
    body = (unfinished, record { start = 3; end = 4 } ∷ [], one_byte_begun, refl);
  },
  refl,
)

-- the same with a whole body
pub whole_parsed : IsParse (input (chunks_text ++ rest_of_chunks) None false) (whole_chunks ∷ [])
unfolding trim_ows
whole_parsed = (
  record {
    start = 0;
    end = 47;
    piece = whole_piece;
    body_start = refl;
    reading = inl (omega arith, (omega arith, chunks_is_head));
    body = (whole 18 (trailer_line ∷ []), record { start = 3; end = 4 } ∷ [], one_byte_read, refl);
  },
  nothing_behind,
)

-- the same with a broken one
pub broken_parsed : IsParse (input broken_text None false) (broken_chunks ∷ [])
broken_parsed = (
  record {
    start = 0;
    end = 47;
    piece = broken_piece;
    body_start = refl;
    reading = inl (omega arith, (omega arith, chunks_is_head));
    body = (not_chunked, [], g_read, refl);
  },
  refl,
)

-- ---- a request that asks for a WebSocket

-- its field lines
abbrev socket_lines : List Field
socket_lines = record { name = codes "upgrade"; raw = codes " websocket"; end = crlf }
    ∷ record {
      name = codes "connection";
      raw = codes " upgrade";
      end = crlf;
    } ∷ record {
      name = codes "sec-websocket-version";
      raw = codes " 13";
      end = crlf;
    } ∷ record {
      name = codes "sec-websocket-key";
      raw = codes " dGhlIHNhbXBsZSBub25jZQ==";
      end = crlf;
    } ∷ []

-- the text of the head
socket_is_head : IsHeadOf socket_text socket_head
unfolding print_request is_token_byte trim_ows
socket_is_head = plain_head _ socket_head socket_lines refl
    (record { spelled = refl; target = refl; headers = refl; body = refl; connection = refl; expects = refl })

-- where it ends
socket_piece : IsHeadPiece socket_text 0 131
socket_piece = plain_piece _ 131 refl

-- the same in front of a frame without a mask
unmasked_piece : IsHeadPiece (socket_text ++ (0x81 ∷ 0x00 ∷ [])) 0 131
unmasked_piece = plain_piece _ 131 refl

-- the request, before it is accepted
pub socket_parsed : IsParse (input socket_text None false) (socket ∷ [])
socket_parsed = (
  record {
    start = 0;
    end = 131;
    piece = socket_piece;
    body_start = refl;
    reading = inl (omega arith, (omega arith, socket_is_head));
    body = refl;
  },
  refl,
)

-- no frame
no_frames : ReadsFrames (connection_reader 100) false 131 socket_text [] None
unfolding front_frame
no_frames = refl

-- the rule that is broken
breaks : ReadsFrames (connection_reader 100) false 131 (socket_text ++ (0x81 ∷ 0x00 ∷ [])) [] (Some unmasked_frame)
unfolding front_frame
breaks = refl

-- the request, once it is accepted
pub accepted_parsed : IsParse (input socket_text (Some 100) false) (accepted_socket ∷ [])
accepted_parsed = (
  record {
    start = 0;
    end = 131;
    piece = socket_piece;
    body_start = refl;
    reading = inl (omega arith, (omega arith, socket_is_head));
    body = ([], None, no_frames, refl);
  },
  refl,
)

-- the same with a frame that breaks a rule
pub unmasked_parsed : IsParse (input (socket_text ++ (0x81 ∷ 0x00 ∷ [])) (Some 100) false) (broken_socket ∷ [])
unmasked_parsed = (
  record {
    start = 0;
    end = 131;
    piece = unmasked_piece;
    body_start = refl;
    reading = inl (omega arith, (omega arith, socket_is_head));
    body = ([], Some unmasked_frame, breaks, refl);
  },
  refl,
)
