-- The answer of two bytes that worked examples share.
use Rattle.std.proofs.Common.{true, false, [], ◌∷◌, ◌++◌, codes, refl, inl, Some, lit≤}
use Rattle.httparse.specs.Grammar.{Field, crlf, is_token_byte, print_response, trim_ows}
use Rattle.model_h1.specs.Request.{close, no_body, raw_body}
use Rattle.model_h1.specs.HeadPiece.{IsHeadPiece}
use Rattle.model_h1.proofs.ExampleLemmas.{plain_piece}
use Rattle.model_h1.specs.Parse.{content, ended_at}
use Rattle.model_client.specs.AnswerReading.{Answer, IsTextOf, answer_is}
use Rattle.model_client.specs.AnswerParse.{AnswerMessage}
use Rattle.model_client.proofs.ExampleLemmas.{plain_tree, plain_text}
use Rattle.model_proxy.specs.Answers.{Found, whole_at, IsAnswer}
use Rattle.model_client.specs.WrittenHead.{line_of}
use Rattle.model_proxy.specs.Laws.Histories.{closing_text}
use Rattle.model_proxy.specs.Laws.Samples.{answer_with, came, hi_text, hi, timeout_text}

abbrev line : Field
line = record { name = codes "content-length"; raw = codes " 2"; end = crlf }

pub hi_is_text : IsTextOf (codes "HTTP/1.1 200 OK\r\ncontent-length: 2\r\n\r\n") hi
unfolding print_response is_token_byte trim_ows
hi_is_text = plain_text _ hi (plain_tree 1 (codes "200") (Some (codes "OK")) (line ∷ [])) refl (lit≤ tt)
    (record { spelled = refl; minor = refl; status = refl; reason = refl; headers = refl; body = refl; connection = refl })

piece : IsHeadPiece (codes "HTTP/1.1 200 OK\r\ncontent-length: 2\r\n\r\nhi") 0 38
piece = plain_piece _ 38 refl

long_piece : IsHeadPiece (codes "HTTP/1.1 200 OK\r\ncontent-length: 2\r\n\r\nhiHTTP/1.1 408 Timed out\r\n\r\n") 0 38
long_piece = plain_piece _ 38 refl

abbrev pub hi_message : AnswerMessage
hi_message = record { reading = answer_is hi; body_start = 38; body = content (record { start = 38; end = 40 } ∷ []) (ended_at 40 []) }

abbrev pub hi_found : Found
hi_found = record { response = Some hi; bytes = codes "hi"; fate = whole_at 40 }

-- its bytes hold this answer
pub hi_answer : IsAnswer (came hi_text false) (codes "GET") hi_found
hi_answer = (
  hi_message ∷ [],
  (record { start = 0; end = 38; piece = piece; body_start = refl; reading = inl (lit≤ tt, (lit≤ tt, inl (refl, hi_is_text))); body = refl }, refl),
  refl,
)

-- and also where others follow
pub long_answer : IsAnswer (came (hi_text ++ timeout_text) false) (codes "GET") hi_found
long_answer = (
  hi_message ∷ [],
  (record { start = 0; end = 38; piece = long_piece; body_start = refl; reading = inl (lit≤ tt, (lit≤ tt, inl (refl, hi_is_text))); body = refl }, refl),
  refl,
)

-- ---- a body up to the end of the input

abbrev pub open_answer : Answer
open_answer = record (answer_with 200 (codes "OK") [] raw_body) { connection = close }

open_is_text : IsTextOf (codes "HTTP/1.1 200 OK\r\n\r\n") open_answer
unfolding print_response
open_is_text = plain_text _ open_answer (plain_tree 1 (codes "200") (Some (codes "OK")) []) refl (lit≤ tt)
    (record { spelled = refl; minor = refl; status = refl; reason = refl; headers = refl; body = refl; connection = refl })

open_piece : IsHeadPiece (codes "HTTP/1.1 200 OK\r\n\r\nabc") 0 19
open_piece = plain_piece _ 19 refl

pub to_the_end : IsAnswer (came (codes "HTTP/1.1 200 OK\r\n\r\nabc") true) (codes "GET")
    (record { response = Some open_answer; bytes = codes "abc"; fate = whole_at 22 })
to_the_end = (
  record { reading = answer_is open_answer; body_start = 19; body = content (record { start = 19; end = 22 } ∷ []) (ended_at 22 []) } ∷ [],
  (record { start = 0; end = 19; piece = open_piece; body_start = refl; reading = inl (lit≤ tt, (lit≤ tt, inl (refl, open_is_text))); body = refl }, refl),
  refl,
)

-- ---- an interim answer

abbrev hints : Answer
hints = answer_with 103 (codes "Early Hints") [] no_body

abbrev empty : Answer
empty = answer_with 204 (codes "No Content") [] no_body

hints_is_text : IsTextOf (codes "HTTP/1.1 103 Early Hints\r\n\r\n") hints
unfolding print_response
hints_is_text = plain_text _ hints (plain_tree 1 (codes "103") (Some (codes "Early Hints")) []) refl (lit≤ tt)
    (record { spelled = refl; minor = refl; status = refl; reason = refl; headers = refl; body = refl; connection = refl })

empty_is_text : IsTextOf (codes "HTTP/1.1 204 No Content\r\n\r\n") empty
unfolding print_response
empty_is_text = plain_text _ empty (plain_tree 1 (codes "204") (Some (codes "No Content")) []) refl (lit≤ tt)
    (record { spelled = refl; minor = refl; status = refl; reason = refl; headers = refl; body = refl; connection = refl })

hints_piece : IsHeadPiece (codes "HTTP/1.1 103 Early Hints\r\n\r\nHTTP/1.1 204 No Content\r\n\r\n") 0 28
hints_piece = plain_piece _ 28 refl

empty_piece : IsHeadPiece (codes "HTTP/1.1 204 No Content\r\n\r\n") 0 27
empty_piece = plain_piece _ 27 refl

pub interim_passed : IsAnswer (came (codes "HTTP/1.1 103 Early Hints\r\n\r\nHTTP/1.1 204 No Content\r\n\r\n") false) (codes "GET")
    (record { response = Some empty; bytes = []; fate = whole_at 55 })
interim_passed = (
  record { reading = answer_is hints; body_start = 28; body = content [] (ended_at 28 []) }
      ∷ record { reading = answer_is empty; body_start = 55; body = content [] (ended_at 55 []) } ∷ [],
  (
    record { start = 0; end = 28; piece = hints_piece; body_start = refl; reading = inl (lit≤ tt, (lit≤ tt, inl (refl, hints_is_text))); body = refl },
    (record { start = 0; end = 27; piece = empty_piece; body_start = refl; reading = inl (lit≤ tt, (lit≤ tt, inl (refl, empty_is_text))); body = refl }, refl),
  ),
  refl,
)

-- ---- an answer after which its server closes the connection

abbrev closing_line : Field
closing_line = record { name = codes "connection"; raw = codes " close"; end = crlf }

abbrev pub closing_answer : Answer
closing_answer = record (answer_with 204 (codes "No Content") (line_of (codes "connection") (codes "close") ∷ []) no_body) { connection = close }

closing_is_text : IsTextOf closing_text closing_answer
unfolding print_response is_token_byte trim_ows
closing_is_text = plain_text _ closing_answer (plain_tree 1 (codes "204") (Some (codes "No Content")) (closing_line ∷ [])) refl (lit≤ tt)
    (record { spelled = refl; minor = refl; status = refl; reason = refl; headers = refl; body = refl; connection = refl })

closing_piece : IsHeadPiece closing_text 0 46
closing_piece = plain_piece _ 46 refl

abbrev pub closing_found : Found
closing_found = record { response = Some closing_answer; bytes = []; fate = whole_at 46 }

pub closing_is_found : IsAnswer (came closing_text false) (codes "GET") closing_found
closing_is_found = (
  record { reading = answer_is closing_answer; body_start = 46; body = content [] (ended_at 46 []) } ∷ [],
  (record { start = 0; end = 46; piece = closing_piece; body_start = refl; reading = inl (lit≤ tt, (lit≤ tt, inl (refl, closing_is_text))); body = refl }, refl),
  refl,
)
