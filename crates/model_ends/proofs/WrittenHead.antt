-- The text of an answer's head is a head of the grammar, and is read back as it was written.
use Rattle.std.proofs.Common.{◌≡◌, ℕ, ◌+◌, ◌-◌, ◌*◌, ◌/◌, ◌%◌, ◌<◌, ◌≤◌, Bool, true, false, List, [], ◌∷◌, ◌++◌, map, flat_map, filter, cond, eqb, All, refl, sym, ap, ◌∙◌, subst, arith, append_assoc, append-nil}
use Rattle.std.specs.Prelude.{IsTrue, codes, Some, decimal}
use Rattle.std.specs.List.{AllByRecursion}
use Rattle.std.specs.Char.{is_ascii_digit}
use Rattle.std.proofs.lemmas.List.Elements.{All-nil, All-cons}
use Rattle.std.proofs.lemmas.List.Concat.{flat_map-append}
use Rattle.std.proofs.lemmas.Bool.Decides.{nat_tests}
use Rattle.http.specs.StatusCode.{IsStatusCode, code_digits}
use Rattle.httparse.specs.Ascii.{crlf_bytes, colon, space}
use Rattle.httparse.specs.Grammar.{AllPass, is_value_byte, crlf, Field, IsField, print_field, ResponseHead, print_response, status_code}
use Rattle.model_h1.specs.Request.{Header, ConnectionType, close, keep_alive, upgrade}
use Rattle.model_h1.specs.RequestHead.{header_of, IsHeaderField}
use Rattle.http_header.specs.FieldValue.{IsFieldValue}
use Rattle.model_h1.specs.Answer.{AnswerHead, BodySize, size_none, size_of, size_stream, Shape, shape_none, shape_chunked, shape_raw, shape_length, is_bodiless, has_header}
use Rattle.model_h1.specs.AnswerText.{name_text, line_text, header_text, by_name, is_sent, status_line, stream_line, size_line, framing_line, connection_line, date_line_unless, head_text}
use Rattle.model_client.specs.WrittenHead.{line_of, stream_lines, size_lines, framing_lines, connection_lines, date_lines, written_lines, written_reason, IsCleanLine, IsReadBack}

-- ---- the text, line by line

lines_text : Bool → List Header → List ℕ
lines_text camel lines = flat_map (header_text camel) lines

one_line : (camel : Bool) (h : Header) → flat_map (header_text camel) (h ∷ []) ≡ header_text camel h
one_line camel h = append-nil (header_text camel h)

stream_lines_text : (camel : Bool) (shape : Shape) → stream_line camel shape ≡ flat_map (header_text camel) (stream_lines shape)
stream_lines_text camel shape_none = refl
stream_lines_text camel shape_chunked = sym (one_line camel (line_of (codes "transfer-encoding") (codes "chunked")))
stream_lines_text camel shape_raw = refl
stream_lines_text camel (shape_length n) = refl

size_lines_text : (camel : Bool) (shape : Shape) (size : BodySize) → size_line camel shape size ≡ flat_map (header_text camel) (size_lines shape size)
size_lines_text camel shape size_none = refl
size_lines_text camel shape (size_of n) = sym (one_line camel (line_of (codes "content-length") (decimal n)))
size_lines_text camel shape size_stream = stream_lines_text camel shape

framing_lines_text : (answer : AnswerHead) (shape : Shape) (size : BodySize)
    → framing_line answer shape size ≡ flat_map (header_text answer.in_camel_case) (framing_lines answer shape size)
framing_lines_text answer shape size = by_test (is_bodiless answer.status)
  where
    by_test : (t : Bool) → cond t [] (size_line answer.in_camel_case shape size) ≡ flat_map (header_text answer.in_camel_case) (cond t [] (size_lines shape size))
    by_test true = refl
    by_test false = size_lines_text answer.in_camel_case shape size

connection_lines_text : (minor : ℕ) (camel : Bool) (kind : ConnectionType)
    → connection_line minor camel kind ≡ flat_map (header_text camel) (connection_lines minor camel kind)
connection_lines_text minor camel upgrade = sym (one_line camel (line_of (codes "connection") (cond camel (codes "Upgrade") (codes "upgrade"))))
connection_lines_text minor camel keep_alive = by_test (eqb minor 0)
  where
    by_test : (t : Bool) → cond t (line_text (name_text camel (codes "connection")) (codes "keep-alive")) [] ≡ flat_map (header_text camel) (cond t (line_of (codes "connection") (codes "keep-alive") ∷ []) [])
    by_test true = sym (one_line camel (line_of (codes "connection") (codes "keep-alive")))
    by_test false = refl
connection_lines_text minor camel close = by_test (eqb minor 0)
  where
    by_test : (t : Bool) → cond t [] (line_text (name_text camel (codes "connection")) (codes "close")) ≡ flat_map (header_text camel) (cond t [] (line_of (codes "connection") (codes "close") ∷ []))
    by_test true = refl
    by_test false = sym (one_line camel (line_of (codes "connection") (codes "close")))

date_lines_text : (has_date : Bool) (answer : AnswerHead) (now : ℕ)
    → date_line_unless has_date answer now ≡ flat_map (header_text answer.in_camel_case) (date_lines has_date now)
date_lines_text true answer now = refl
date_lines_text false answer now = sym (append-nil _)

-- the first line, the lines, and an empty line
pub head_text_is : (minor : ℕ) (answer : AnswerHead) (shape : Shape) (size : BodySize) (kind : ConnectionType) (now : ℕ)
    → head_text minor answer shape size kind now
    ≡ status_line minor answer ++ (flat_map (header_text answer.in_camel_case) (written_lines minor answer shape size kind now) ++ crlf_bytes)
unfolding head_text
head_text_is minor answer shape size kind now =
    let text = flat_map (header_text answer.in_camel_case) in
    let a = framing_lines answer shape size in
    let b = connection_lines minor answer.in_camel_case kind in
    let c = filter (is_sent answer shape) (by_name answer.headers) in
    let d = date_lines (has_header (codes "date") answer.headers) now in
    let joined : text (a ++ (b ++ (c ++ d))) ≡ text a ++ (text b ++ (text c ++ text d)) =
    flat_map-append (header_text answer.in_camel_case) a (b ++ (c ++ d))
    ∙ ap (λ t. text a ++ t) (flat_map-append (header_text answer.in_camel_case) b (c ++ d)
    ∙ ap (λ t. text b ++ t) (flat_map-append (header_text answer.in_camel_case) c d)) in
    ap (λ t. status_line minor answer ++ t)
    ((λ i. framing_lines_text answer shape size i ++ (connection_lines_text minor answer.in_camel_case kind i
    ++ (text c ++ (date_lines_text (has_header (codes "date") answer.headers) answer now i ++ crlf_bytes))))
    ∙ sym (ap (λ t. t ++ crlf_bytes) joined
    ∙ append_assoc (text a) (text b ++ (text c ++ text d)) crlf_bytes
    ∙ ap (λ t. text a ++ t) (append_assoc (text b) (text c ++ text d) crlf_bytes
    ∙ ap (λ t. text b ++ t) (append_assoc (text c) (text d) crlf_bytes))))

-- ---- the tree

abbrev pub field_of : Bool → Header → Field
field_of camel h = record { name = name_text camel h.name; raw = space ∷ h.value; end = crlf }

abbrev tree : ℕ → AnswerHead → List Header → ResponseHead
tree minor answer lines = record {
  blank = [];
  minor = minor;
  digits = code_digits answer.status;
  reason = Some (written_reason answer);
  line_end = crlf;
  fields = map (field_of answer.in_camel_case) lines;
  last = crlf;
}

field_text : (camel : Bool) (h : Header) → header_text camel h ≡ print_field (field_of camel h)
field_text camel h = sym (append_assoc (name_text camel h.name) (colon ∷ space ∷ h.value) crlf_bytes)

pub fields_text : (camel : Bool) (lines : List Header) → flat_map (header_text camel) lines ≡ flat_map print_field (map (field_of camel) lines)
fields_text camel [] = refl
fields_text camel (h ∷ lines) = λ i. field_text camel h i ++ fields_text camel lines i

-- the text is the tree's
pub text_is_tree : (minor : ℕ) (answer : AnswerHead) (lines : List Header)
    → status_line minor answer ++ (flat_map (header_text answer.in_camel_case) lines ++ crlf_bytes) ≡ print_response (tree minor answer lines)
unfolding print_response
text_is_tree minor answer lines =
    let front = codes "HTTP/1." ++ ((48 + minor) ∷ (codes " " ++ code_digits answer.status)) in
    let reason = written_reason answer in
    let section = flat_map (header_text answer.in_camel_case) lines ++ crlf_bytes in
    append_assoc (front ++ space ∷ reason) crlf_bytes section
    ∙ ap (λ t. (front ++ space ∷ reason) ++ (crlf_bytes ++ (t ++ crlf_bytes))) (fields_text answer.in_camel_case lines)
    ∙ sym (append_assoc (front ++ space ∷ reason) crlf_bytes (flat_map print_field (map (field_of answer.in_camel_case) lines) ++ crlf_bytes))

-- ---- it is valid, and says what was written

digit_passes : (n : ℕ) → is_ascii_digit (48 + n % 10) ≡ true
digit_passes n = grind (arith, nat_tests)

first_digit : (n : ℕ) → n < 1000 → is_ascii_digit (48 + n / 100) ≡ true
first_digit n small = grind (arith, nat_tests)

code_value : (n : ℕ) → n < 1000 → (48 + n / 100 - 48) * 100 + (48 + n / 10 % 10 - 48) * 10 + (48 + n % 10 - 48) ≡ n
code_value n small = omega arith

code_passes : (n : ℕ) → n < 1000 → AllPass is_ascii_digit (code_digits n)
code_passes n small =
    let P : ℕ → Type 0 = λ b. IsTrue (is_ascii_digit b) in
    let last = (48 + n % 10) ∷ [] in
    All-cons P (48 + n / 100) ((48 + n / 10 % 10) ∷ last) (first_digit n small)
    (All-cons P (48 + n / 10 % 10) last (digit_passes (n / 10)) (All-cons P (48 + n % 10) [] (digit_passes n) (All-nil P)))

pub fields_valid : (camel : Bool) (lines : List Header) → AllByRecursion (IsCleanLine camel) lines → All IsField (map (field_of camel) lines)
fields_valid camel [] clean = All-nil IsField
fields_valid camel (h ∷ lines) clean =
    All-cons IsField (field_of camel h) (map (field_of camel) lines)
    (record { name = clean.0.name; raw = All-cons (λ b. IsTrue (is_value_byte b)) 32 h.value refl clean.0.value })
    (fields_valid camel lines clean.1)

pub fields_same : (camel : Bool) (lines : List Header) → AllByRecursion (IsCleanLine camel) lines → map header_of (map (field_of camel) lines) ≡ lines
fields_same camel [] clean = refl
fields_same camel (h ∷ lines) clean =
    λ i. record { name = clean.0.lowers i; value = clean.0.trimmed i } ∷ fields_same camel lines clean.1 i

-- a header field may have the names and the values
pub fields_are : (camel : Bool) (lines : List Header) → AllByRecursion (IsCleanLine camel) lines → AllByRecursion IsHeaderField (map (field_of camel) lines)
fields_are camel [] clean = tt
fields_are camel (h ∷ lines) clean = (
  record { name = clean.0.field_name; value = subst IsFieldValue (sym clean.0.trimmed) clean.0.value },
  fields_are camel lines clean.1,
)

status_same : (minor : ℕ) (answer : AnswerHead) (lines : List Header) → answer.status < 1000 → status_code (tree minor answer lines) ≡ answer.status
status_same minor answer lines small = grind (arith, nat_tests)

pub reads_back : (minor : ℕ) (answer : AnswerHead) (shape : Shape) (size : BodySize) (kind : ConnectionType) (now : ℕ)
    → minor ≤ 1 → IsStatusCode answer.status → AllPass is_value_byte (written_reason answer)
    → AllByRecursion (IsCleanLine answer.in_camel_case) (written_lines minor answer shape size kind now)
    → IsReadBack (head_text minor answer shape size kind now) minor answer.status (written_reason answer) (written_lines minor answer shape size kind now)
reads_back minor answer shape size kind now low status reason clean =
    let lines = written_lines minor answer shape size kind now in
    let h = tree minor answer lines in
    record {
      head = h;
      reads = (
        record {
          minor = low;
          digits = (refl, code_passes answer.status status.1);
          reason = reason;
          fields = fields_valid answer.in_camel_case lines clean;
        },
        head_text_is minor answer shape size kind now ∙ text_is_tree minor answer lines ∙ sym (append-nil (print_response h)),
      );
      blank = refl;
      minor_is = refl;
      status_is = status_same minor answer lines status.1;
      reason_is = refl;
      fields = fields_are answer.in_camel_case lines clean;
      lines_are = fields_same answer.in_camel_case lines clean;
    }
