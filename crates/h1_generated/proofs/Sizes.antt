-- How long the texts of an exchange are at most.
use Rattle.std.proofs.Common.{◌≡◌, true, false, ℕ, ◌+◌, ◌^◌, ◌<◌, ◌≤◌, List, ◌++◌, length, codes, arith, length-append}
use Rattle.std.specs.Prelude.{zero, suc, decimal}
use Rattle.std.specs.Fmt.{digits}
use Rattle.std.proofs.lemmas.Fmt.{length-decimal-le}
use Rattle.std.proofs.lemmas.List.{length-replicate}
use Rattle.httparse.specs.Ascii.{crlf_bytes}
use Rattle.model_h1.specs.Answer.{size_of, size_stream, shape_none, shape_length, shape_chunked}
use Rattle.model_h1.specs.AnswerText.{year_at, month_at, date_of, date_line_unless, chunk_text}
use Rattle.model_h1.specs.AnswerText as answers
use Rattle.h1_generated.specs.Generated.{Kind, get, head, sized, chunked, letters, method_of, framing_line, head_text, body_text, fine}
use Rattle.h1_generated.proofs.Chunks.{short_size}
use Rattle.h1_generated.proofs.States.{answer_head}

digits_short : (n : ℕ) → n < 2 ^ 64 → length (decimal n) ≤ 20
digits_short n fits = length-decimal-le 20 n (omega arith) (omega (arith, fits)) fits

framing_short : (kind : Kind) (n : ℕ) → n < 2 ^ 64 → length (framing_line kind n) ≤ 40
framing_short get n fits = omega arith
framing_short head n fits = omega arith
framing_short sized n fits = omega (arith, length-append (decimal n) crlf_bytes, digits_short n fits)
framing_short chunked n fits = omega arith

method_short : (kind : Kind) (rest : List ℕ) → length (method_of kind ++ rest) ≤ 4 + length rest
method_short get rest = omega arith
method_short head rest = omega arith
method_short sized rest = omega arith
method_short chunked rest = omega arith

-- the head of a request
pub head_short : (kind : Kind) (k n : ℕ) → k < 2 ^ 64 → n < 2 ^ 64 → length (head_text kind k n) ≤ 100
unfolding head_text
head_short kind k n fits fits_len =
    let line = framing_line kind n in
    let behind = codes " HTTP/1.1\r\n" ++ (line ++ codes "\r\n") in
    omega (
      arith,
      method_short kind (codes " /" ++ (decimal k ++ behind)),
      length-append (decimal k) behind,
      length-append line (codes "\r\n"),
      digits_short k fits,
      framing_short kind n fits_len,
    )

pub letters_len : (n : ℕ) → length (letters n) ≡ n
letters_len n = length-replicate n 97

-- its body
pub body_short : (kind : Kind) (n : ℕ) → n ≤ 1000 → length (body_text kind n) ≤ 1100
unfolding body_text
body_short get n small = omega arith
body_short head n small = omega arith
body_short sized n small = omega (arith, letters_len n)
body_short chunked n small =
    let bytes = letters n in
    let size = digits 16 true (length bytes) in
    omega (
      arith,
      letters_len n,
      short_size (length bytes) (omega (arith, letters_len n)),
      length-append size (codes "\r\n" ++ (bytes ++ codes "\r\n0\r\n\r\n")),
      length-append bytes (codes "\r\n0\r\n\r\n"),
    )

-- the head of an answer
pub empty_answer_short : length (answer_head shape_none (size_of 0)) ≤ 100
unfolding answers.head_text date_of year_at month_at digits
empty_answer_short = omega arith

pub length_answer_short : (n : ℕ) → n < 2 ^ 64 → length (answer_head (shape_length n) (size_of n)) ≤ 100
unfolding answers.head_text date_of year_at month_at
length_answer_short n fits =
    let date = date_line_unless false fine 0 ++ crlf_bytes in
    omega (arith, length-append (decimal n ++ crlf_bytes) date, length-append (decimal n) crlf_bytes, digits_short n fits)

pub chunked_answer_short : length (answer_head shape_chunked size_stream) ≤ 110
unfolding answers.head_text date_of year_at month_at
chunked_answer_short = omega arith

-- a chunk of it
pub chunk_short : (n : ℕ) → n ≤ 1000 → length (chunk_text (letters n)) ≤ 1100
chunk_short zero small = omega arith
chunk_short (suc m) small =
    let bytes = letters (suc m) in
    let size = digits 16 true (length bytes) in
    omega (
      arith,
      letters_len (suc m),
      short_size (length bytes) (omega (arith, letters_len (suc m))),
      length-append size (crlf_bytes ++ (bytes ++ crlf_bytes)),
      length-append bytes crlf_bytes,
    )
