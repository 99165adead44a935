-- The text of a request's head, line by line.
use Rattle.std.proofs.Common.{◌≡◌, ℕ, Bool, true, false, not, ◌&&◌, ◌||◌, List, [], ◌∷◌, ◌++◌, flat_map, filter, cond, eqb, refl, sym, ap, ◌∙◌, append_assoc, append-nil, if◌then◌else◌}
use Rattle.std.specs.Prelude.{codes, decimal}
use Rattle.std.proofs.lemmas.List.Concat.{flat_map-append}
use Rattle.httparse.specs.Ascii.{crlf_bytes, space}
use Rattle.httparse.specs.Grammar.{print_version}
use Rattle.http_map.specs.HeaderMap.{Entries, pairs, IsHeaderMap}
use Rattle.model_h1.specs.Request.{Header, ConnectionType, close, keep_alive, upgrade}
use Rattle.model_h1.specs.Answer.{BodySize, size_none, size_of, size_stream, Shape, shape_none, shape_chunked, shape_raw, shape_length, is_raw, has_header}
use Rattle.model_h1.specs.AnswerText.{name_text, line_text, header_text, by_name, is_sent, stream_line, size_line, connection_line, date_line}
use Rattle.model_client.specs.WrittenHead.{line_of, stream_lines, size_lines, connection_lines, date_lines}
use Rattle.model_client.specs.RequestText.{AskedHead, as_answer, asked_shape, request_text}
use Rattle.h1_encoder.specs.Meaning.{headers_of}
use Rattle.h1_encoder.specs.WrittenLines.{pairs_text, has_date}
use Rattle.h1_encoder.proofs.Pieces.{two, three}
use Rattle.h1_encoder.proofs.HeaderLines as maps
use Rattle.h1_encoder.specs.RequestLines.{request_words}

-- ---- the lines, one by one

one_line : (camel : Bool) (h : Header) → flat_map (header_text camel) (h ∷ []) ≡ header_text camel h
one_line camel h = append-nil (header_text camel h)

stream_text : (camel : Bool) (shape : Shape) → stream_line camel shape ≡ flat_map (header_text camel) (stream_lines shape)
stream_text camel shape_none = refl
stream_text camel shape_chunked = sym (one_line camel (line_of (codes "transfer-encoding") (codes "chunked")))
stream_text camel shape_raw = refl
stream_text camel (shape_length n) = refl

size_text : (camel : Bool) (shape : Shape) (size : BodySize) → size_line camel shape size ≡ flat_map (header_text camel) (size_lines shape size)
size_text camel shape size_none = refl
size_text camel shape (size_of n) = sym (one_line camel (line_of (codes "content-length") (decimal n)))
size_text camel shape size_stream = stream_text camel shape

connection_text : (minor : ℕ) (camel : Bool) (kind : ConnectionType)
    → connection_line minor camel kind ≡ flat_map (header_text camel) (connection_lines minor camel kind)
connection_text minor camel upgrade = sym (one_line camel (line_of (codes "connection") (cond camel (codes "Upgrade") (codes "upgrade"))))
connection_text minor camel keep_alive = by_test (eqb minor 0)
  where
    by_test : (t : Bool) → cond t (line_text (name_text camel (codes "connection")) (codes "keep-alive")) [] ≡ flat_map (header_text camel) (cond t (line_of (codes "connection") (codes "keep-alive") ∷ []) [])
    by_test true = sym (one_line camel (line_of (codes "connection") (codes "keep-alive")))
    by_test false = refl
connection_text minor camel close = by_test (eqb minor 0)
  where
    by_test : (t : Bool) → cond t [] (line_text (name_text camel (codes "connection")) (codes "close")) ≡ flat_map (header_text camel) (cond t [] (line_of (codes "connection") (codes "close") ∷ []))
    by_test true = refl
    by_test false = sym (one_line camel (line_of (codes "connection") (codes "close")))

date_text : (camel has_date : Bool) (now : ℕ)
    → (if has_date then [] else date_line camel now) ≡ flat_map (header_text camel) (date_lines has_date now)
date_text camel true now = refl
date_text camel false now = sym (append-nil _)

-- ---- the whole head

-- the request line in front of what follows
words_text : (r : AskedHead) (x : List ℕ) → request_words r ++ x ≡ r.method ++ space ∷ (r.target ++ space ∷ (print_version r.minor ++ x))
words_text r x =
    append_assoc r.method (space ∷ (r.target ++ space ∷ print_version r.minor)) x
    ∙ ap (λ (l : List ℕ). r.method ++ space ∷ l) (append_assoc r.target (space ∷ print_version r.minor) x)

-- its pieces
text_is : (r : AskedHead) (shape : Shape) (size : BodySize) (kind : ConnectionType) (now : ℕ)
    → request_text r shape size kind now ≡ request_words r ++ (crlf_bytes ++ (size_line r.in_camel_case shape size
    ++ (connection_line r.minor r.in_camel_case kind
    ++ (flat_map (header_text r.in_camel_case) (filter (is_sent (as_answer r) shape) (by_name r.headers))
    ++ ((if has_header (codes "date") r.headers then [] else date_line r.in_camel_case now) ++ crlf_bytes)))))
unfolding request_text
text_is r shape size kind now =
    let text = flat_map (header_text r.in_camel_case) in
    let a = size_lines shape size in
    let b = connection_lines r.minor r.in_camel_case kind in
    let c = filter (is_sent (as_answer r) shape) (by_name r.headers) in
    let d = date_lines (has_header (codes "date") r.headers) now in
    let joined : text (a ++ (b ++ (c ++ d))) ≡ text a ++ (text b ++ (text c ++ text d)) =
    flat_map-append (header_text r.in_camel_case) a (b ++ (c ++ d))
    ∙ ap (λ (t : List ℕ). text a ++ t) (flat_map-append (header_text r.in_camel_case) b (c ++ d)
    ∙ ap (λ (t : List ℕ). text b ++ t) (flat_map-append (header_text r.in_camel_case) c d)) in
    let lines : text (a ++ (b ++ (c ++ d))) ++ crlf_bytes ≡ text a ++ (text b ++ (text c ++ (text d ++ crlf_bytes))) =
    ap (λ (t : List ℕ). t ++ crlf_bytes) joined
    ∙ append_assoc (text a) (text b ++ (text c ++ text d)) crlf_bytes
    ∙ ap (λ (t : List ℕ). text a ++ t) (append_assoc (text b) (text c ++ text d) crlf_bytes
    ∙ ap (λ (t : List ℕ). text b ++ t) (append_assoc (text c) (text d) crlf_bytes)) in
    sym (words_text r (crlf_bytes ++ (text (a ++ (b ++ (c ++ d))) ++ crlf_bytes)))
    ∙ ap (λ (t : List ℕ). request_words r ++ (crlf_bytes ++ t))
    (lines ∙ sym (λ i. size_text r.in_camel_case shape size i ++ (connection_text r.minor r.in_camel_case kind i
    ++ (text c ++ (date_text r.in_camel_case (has_header (codes "date") r.headers) now i ++ crlf_bytes)))))

-- ---- what the code puts

-- a request's body isn't raw
not_raw : (size : BodySize) → is_raw (asked_shape size) ≡ false
not_raw size_none = refl
not_raw (size_of n) = by_test (eqb n 0)
  where
    by_test : (t : Bool) → is_raw (cond t shape_none (shape_length n)) ≡ false
    by_test true = refl
    by_test false = refl
not_raw size_stream = refl

-- the same by what the code tells: which pairs the map has, and whether one is a date
pub request_is : (r : AskedHead) (size : BodySize) (kind : ConnectionType) (now : ℕ) (m : Entries) (camel dated : Bool)
    (old words framed told lines all : List ℕ)
    → IsHeaderMap m → r.headers ≡ headers_of m → camel ≡ r.in_camel_case → dated ≡ has_date (pairs m)
    → words ≡ old ++ request_words r
    → framed ≡ words ++ (crlf_bytes ++ size_line camel (asked_shape size) size)
    → told ≡ framed ++ connection_line r.minor camel kind
    → lines ≡ told ++ pairs_text camel false (pairs m)
    → all ≡ lines ++ ((if dated then [] else date_line camel now) ++ crlf_bytes)
    → all ≡ old ++ request_text r (asked_shape size) size kind now
request_is r size kind now m camel dated old words framed told lines all valid headers camel_is dated_is words_is framed_is told_is lines_is all_is =
    let shape = asked_shape size in
    let f = size_line r.in_camel_case shape size in
    let c = connection_line r.minor r.in_camel_case kind in
    let h = flat_map (header_text r.in_camel_case) (filter (is_sent (as_answer r) shape) (by_name r.headers)) in
    let d = (if has_header (codes "date") r.headers then [] else date_line r.in_camel_case now) ++ crlf_bytes in
    let same_date : dated ≡ has_header (codes "date") r.headers =
    dated_is ∙ sym (maps.date_lines m) ∙ ap (λ (l : List Header). has_header (codes "date") l) (sym headers) in
    let sent : pairs_text r.in_camel_case false (pairs m) ≡ h =
    sym (maps.sent_lines r.in_camel_case (as_answer r) shape m valid headers
    ∙ ap (λ (b : Bool). pairs_text r.in_camel_case (b && true) (pairs m)) (not_raw size)) in
    let framed_is' : framed ≡ words ++ (crlf_bytes ++ f) =
    framed_is ∙ ap (λ (b : Bool). words ++ (crlf_bytes ++ size_line b shape size)) camel_is in
    let told_is' : told ≡ framed ++ c = told_is ∙ ap (λ (b : Bool). framed ++ connection_line r.minor b kind) camel_is in
    let lines_is' : lines ≡ told ++ h =
    lines_is ∙ ap (λ (b : Bool). told ++ pairs_text b false (pairs m)) camel_is ∙ ap (λ (l : List ℕ). told ++ l) sent in
    let all_is' : all ≡ lines ++ d = all_is ∙ (λ i. lines ++ ((if same_date i then [] else date_line (camel_is i) now) ++ crlf_bytes)) in
    two old (request_words r) ((crlf_bytes ++ f) ++ (c ++ (h ++ d))) words all words_is
    (two words (crlf_bytes ++ f) (c ++ (h ++ d)) framed all framed_is' (three framed c h d told lines all told_is' lines_is' all_is'))
    ∙ ap (λ (l : List ℕ). old ++ (request_words r ++ l)) (append_assoc crlf_bytes f (c ++ (h ++ d)))
    ∙ ap (λ (l : List ℕ). old ++ l) (sym (text_is r shape size kind now))
