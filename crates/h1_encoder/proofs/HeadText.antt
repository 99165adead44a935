-- The text of a head, line by line.
use Rattle.std.proofs.Common.{◌≡◌, ℕ, ◌/◌, Bool, true, false, Option, Some, None, refl, not, ◌&&◌, ◌||◌, List, [], ◌++◌, drop, sym, ap, ◌∙◌, append_assoc, codes, if◌then◌else◌}
use Rattle.std.specs.Prelude.{◌==◌, ◌+◌, ◌∷◌, filter, flat_map, unwrap_or, IsSome, IsTrue}
use Rattle.http.specs.StatusCode.{code_digits, reason_phrase}
use Rattle.httparse.specs.Ascii.{crlf_bytes}
use Rattle.http_map.specs.HeaderMap.{Entries, pairs, IsHeaderMap}
use Rattle.model_h1.specs.Request.{ConnectionType}
use Rattle.model_h1.specs.Answer.{AnswerHead, BodySize, Shape, is_bodiless, is_raw, has_header}
use Rattle.model_h1.specs.AnswerText.{camel_rest, date_of, date_line, size_line, framing_line, connection_line, header_text, is_sent, by_name, date_line_unless, head_text}
use Rattle.h1_encoder.specs.DateText.{date_and_end}
use Rattle.h1_encoder.specs.WrittenLines.{status_words, pairs_text, has_date}
use Rattle.h1_encoder.specs.Meaning.{headers_of}
use Rattle.h1_encoder.proofs.Pieces.{two, three}
use Rattle.h1_encoder.proofs.HeaderLines.{sent_lines, date_lines}

-- no reason of its own
no_reason : (reason : Option (List ℕ)) (own : Bool) → IsTrue (not own) → (IsSome reason → IsTrue own) → reason ≡ None
no_reason None own none has = refl
no_reason (Some r) true none has = absurd (cc none)
no_reason (Some r) false none has = absurd (cc (has refl))

-- the lines behind one another
lines_are : (minor : ℕ) (answer : AnswerHead) (shape : Shape) (size : BodySize) (kind : ConnectionType) (now : ℕ)
    (old status framed told lines all : List ℕ)
    → status ≡ old ++ status_words minor answer
    → framed ≡ status ++ (crlf_bytes ++ framing_line answer shape size)
    → told ≡ framed ++ connection_line minor answer.in_camel_case kind
    → lines ≡ told ++ flat_map (header_text answer.in_camel_case) (filter (is_sent answer shape) (by_name answer.headers))
    → all ≡ lines ++ (date_line_unless (has_header (codes "date") answer.headers) answer now ++ crlf_bytes)
    → all ≡ old ++ head_text minor answer shape size kind now
unfolding head_text
lines_are minor answer shape size kind now old status framed told lines all status_is framed_is told_is lines_is all_is =
    let w = status_words minor answer in
    let f = framing_line answer shape size in
    let c = connection_line minor answer.in_camel_case kind in
    let h = flat_map (header_text answer.in_camel_case) (filter (is_sent answer shape) (by_name answer.headers)) in
    let d = date_line_unless (has_header (codes "date") answer.headers) answer now ++ crlf_bytes in
    let rest = f ++ (c ++ (h ++ d)) in
    let behind : all ≡ framed ++ (c ++ (h ++ d)) = three framed c h d told lines all told_is lines_is all_is in
    let framing : all ≡ status ++ ((crlf_bytes ++ f) ++ (c ++ (h ++ d))) = two status (crlf_bytes ++ f) (c ++ (h ++ d)) framed all framed_is behind in
    two old w ((crlf_bytes ++ f) ++ (c ++ (h ++ d))) status all status_is framing
    ∙ ap (λ (l : List ℕ). old ++ l) (sym (append_assoc w crlf_bytes rest))

-- the same by what the code tells: whether names are in camel case, which pairs the map has, and whether one is a date
pub head_is : (minor : ℕ) (answer : AnswerHead) (shape : Shape) (size : BodySize) (kind : ConnectionType) (now : ℕ) (m : Entries) (camel dated : Bool)
    (old status framed told lines all : List ℕ)
    → IsHeaderMap m → answer.headers ≡ headers_of m → camel ≡ answer.in_camel_case → dated ≡ has_date (pairs m)
    → status ≡ old ++ status_words minor answer
    → framed ≡ status ++ (crlf_bytes ++ (if is_bodiless answer.status then [] else size_line camel shape size))
    → told ≡ framed ++ connection_line minor camel kind
    → lines ≡ told ++ pairs_text camel ((answer.status == 304) || (is_raw shape && not (answer.status == 101))) (pairs m)
    → all ≡ lines ++ ((if dated then [] else date_line camel now) ++ crlf_bytes)
    → all ≡ old ++ head_text minor answer shape size kind now
head_is minor answer shape size kind now m camel dated old status framed told lines all valid headers camel_is dated_is status_is framed_is told_is lines_is all_is =
    let keeps = (answer.status == 304) || (is_raw shape && not (answer.status == 101)) in
    let dated_is' : dated ≡ has_header (codes "date") answer.headers = dated_is ∙ sym (date_lines m) ∙ ap (has_header (codes "date")) (sym headers) in
    lines_are minor answer shape size kind now old status framed told lines all status_is
    (framed_is ∙ ap (λ (b : Bool). status ++ (crlf_bytes ++ (if is_bodiless answer.status then [] else size_line b shape size))) camel_is)
    (told_is ∙ ap (λ (b : Bool). framed ++ connection_line minor b kind) camel_is)
    (lines_is ∙ ap (λ (b : Bool). told ++ pairs_text b keeps (pairs m)) camel_is
    ∙ ap (λ (l : List ℕ). told ++ l) (sym (sent_lines answer.in_camel_case answer shape m valid headers)))
    (all_is ∙ (λ i. lines ++ ((if dated_is' i then [] else date_line (camel_is i) now) ++ crlf_bytes)))

-- the date line in camel case, of the one that is kept
pub camel_date : (now second : ℕ) (old one line rest all : List ℕ) → line ≡ date_and_end second → one ≡ old ++ codes "Date" → all ≡ one ++ rest
    → rest ≡ drop 4 line → now / 1000 ≡ second → all ≡ old ++ (date_line true now ++ crlf_bytes)
unfolding camel_rest
camel_date now second old one line rest all line_is one_is all_is rest_is is =
    let text : rest ≡ codes ": " ++ (date_of (now / 1000) ++ (crlf_bytes ++ crlf_bytes)) =
    rest_is ∙ ap (λ (l : List ℕ). drop 4 l) (line_is ∙ ap date_and_end (sym is)) in
    two old (codes "Date") rest one all one_is all_is
    ∙ ap (λ (l : List ℕ). old ++ (codes "Date" ++ l)) text
    ∙ ap (λ (l : List ℕ). old ++ (codes "Date: " ++ l)) (sym (append_assoc (date_of (now / 1000)) crlf_bytes crlf_bytes))

-- the most common status line
pub ok_line : (minor : ℕ) (answer : AnswerHead) (own : Bool) → minor ≡ 1 → answer.status ≡ 200 → IsTrue (not own) → (IsSome answer.reason → IsTrue own)
    → codes "HTTP/1.1 200 OK" ≡ status_words minor answer
ok_line minor answer own minor_is status_is none has =
    sym (λ i. codes "HTTP/1." ++ ((48 + minor_is i) ∷ (codes " " ++ (code_digits (status_is i)
    ++ (codes " " ++ unwrap_or (no_reason answer.reason own none has i) (unwrap_or (reason_phrase (status_is i)) (codes "<unknown status code>")))))))
