-- The head of a generated request, and what it says.
use Rattle.std.proofs.Common.{◌≡◌, ℕ, ◌^◌, ◌<◌, ◌≤◌, true, false, List, [], ◌∷◌, ◌++◌, length, map, flat_map, codes, All, refl, sym, ap, ◌∙◌, subst, arith, append_assoc, append-nil, lit≤, lt-ltb}
use Rattle.std.specs.Prelude.{IsTrue, Some, decimal, nat_lt}
use Rattle.std.specs.List.{list_all, AllByRecursion}
use Rattle.std.specs.Char.{is_ascii_digit}
use Rattle.std.proofs.lemmas.Bool.{and_parts, ltb-true}
use Rattle.std.proofs.lemmas.Bool.Decides.{nat_tests}
use Rattle.std.proofs.lemmas.List.Elements.{All-nil, All-cons, All-weaker}
use Rattle.std.proofs.lemmas.List.Sums.{AllPass-from_list_all}
use Rattle.httparse.specs.Ascii.{crlf_bytes}
use Rattle.httparse.specs.Grammar.{AllPass, IsToken, is_token, is_token_byte, is_uri_byte, is_value_byte, trim_ows, crlf, print_version, RequestHead, IsRequestHead, print_request, Field, IsField, print_field}
use Rattle.http_header.specs.FieldName.{IsFieldName}
use Rattle.http_header.specs.Token.{is_value_byte as is_field_byte}
use Rattle.http_header.proofs.TokenLemmas.{IsFieldName-from_test}
use Rattle.http_header.specs.FieldValue.{IsFieldValue}
use Rattle.model_h1.specs.HeadPiece.{BeginsBlank, header_lines, IsHeadPiece}
use Rattle.model_h1.specs.Limits.{MAX_HEADER_LINES}
use Rattle.model_h1.specs.LengthTable.{body_kind, connection_of, expects_continue}
use Rattle.model_h1.specs.Request.{Header, BodyKind, no_body, fixed_body, chunked_body, keep_alive, Head, head_is}
use Rattle.model_h1.specs.RequestHead.{IsHeadOf, IsHeaderField, header_of, IsReading}
use Rattle.model_h1.proofs.LineFeeds.{feeds-append, feeds-none, feeds-token, feeds-head}
use Rattle.model_h1.proofs.HeadEnds.{token_begins}
use Rattle.h1_generated.specs.Generated.{Kind, get, head, sized, chunked, method_of, framing_line, head_text}
use Rattle.h1_generated.proofs.Targets.{target, low_target, uri_bytes, is_utf8, is_target}
use Rattle.h1_generated.proofs.Numbers.{digits_pass, blank_trimmed, length_stated}
use Rattle.h1_generated.proofs.Pieces.{lines_text, IsFirstLine, whole_head}

-- ---- field lines

abbrev length_field : ℕ → Field
length_field n = record { name = codes "content-length"; raw = 32 ∷ decimal n; end = crlf }

abbrev coding_field : Field
coding_field = record { name = codes "transfer-encoding"; raw = codes " chunked"; end = crlf }

abbrev pub fields_of : Kind → ℕ → List Field
fields_of sized n = length_field n ∷ []
fields_of chunked n = coding_field ∷ []
fields_of _ n = []

abbrev pub headers_of : Kind → ℕ → List Header
headers_of sized n = record { name = codes "content-length"; value = decimal n } ∷ []
headers_of chunked n = record { name = codes "transfer-encoding"; value = codes "chunked" } ∷ []
headers_of _ n = []

abbrev pub body_of : Kind → ℕ → BodyKind
body_of sized n = fixed_body n
body_of chunked n = chunked_body
body_of _ n = no_body

-- the tree of the head, and what it says
abbrev pub tree_of : Kind → ℕ → ℕ → RequestHead
tree_of kind k n =
    record { blank = []; method = method_of kind; target = target k; minor = 1; line_end = crlf; fields = fields_of kind n; last = crlf }

abbrev pub said : Kind → ℕ → ℕ → Head
said kind k n =
    record {
      method = method_of kind;
      target = target k;
      minor = 1;
      headers = headers_of kind n;
      body = body_of kind n;
      connection = keep_alive;
      expects = false;
    }

few_fields : (kind : Kind) (n : ℕ) → length (fields_of kind n) ≤ 1
few_fields get n = lit≤ tt
few_fields head n = lit≤ tt
few_fields sized n = lit≤ tt
few_fields chunked n = lit≤ tt

-- ---- its parts are well formed

-- a token, read off its test
token_read : (word : List ℕ) → is_token word ≡ true → IsToken word
token_read word e =
    let both = and_parts (nat_lt 0 (length word)) (list_all is_token_byte word) e in
    (ltb-true 0 (length word) both.0, AllPass-from_list_all is_token_byte word both.1)

method_token : (kind : Kind) → IsToken (method_of kind)
unfolding is_token_byte
method_token get = token_read (method_of get) refl
method_token head = token_read (method_of head) refl
method_token sized = token_read (method_of sized) refl
method_token chunked = token_read (method_of chunked) refl

method_name : (kind : Kind) → IsFieldName (method_of kind)
method_name get = IsFieldName-from_test (method_of get) refl
method_name head = IsFieldName-from_test (method_of head) refl
method_name sized = IsFieldName-from_test (method_of sized) refl
method_name chunked = IsFieldName-from_test (method_of chunked) refl

digit_visible : (b : ℕ) → IsTrue (is_ascii_digit b) → IsTrue (is_value_byte b)
digit_visible b digit = grind (arith, nat_tests)

digit_header : (b : ℕ) → IsTrue (is_ascii_digit b) → IsTrue (is_field_byte b)
digit_header b digit = grind (arith, nat_tests)

coding_headers : (n : ℕ) → headers_of chunked n ≡ map header_of (fields_of chunked n)
unfolding trim_ows
coding_headers n = refl

coding_body : (n : ℕ) → body_kind 1 (method_of chunked) (headers_of chunked n) ≡ Some (body_of chunked n)
unfolding trim_ows
coding_body n = refl

module _ (n : ℕ) (fits : n < 2 ^ 64) where
  length_raw : AllPass is_value_byte (32 ∷ decimal n)
  length_raw =
      All-cons (λ b. IsTrue (is_value_byte b)) 32 (decimal n) refl
      (All-weaker (λ b. IsTrue (is_ascii_digit b)) (λ b. IsTrue (is_value_byte b)) digit_visible (decimal n) (digits_pass n fits))

  length_value_valid : IsFieldValue (decimal n)
  length_value_valid =
      All-weaker (λ b. IsTrue (is_ascii_digit b)) (λ b. IsTrue (is_field_byte b)) digit_header (decimal n) (digits_pass n fits)

  fields_valid : (kind : Kind) → All IsField (fields_of kind n)
  unfolding is_token_byte
  fields_valid get = All-nil IsField
  fields_valid head = All-nil IsField
  fields_valid sized = All-cons IsField (length_field n) [] (record { name = token_read (codes "content-length") refl; raw = length_raw }) (All-nil IsField)
  fields_valid chunked =
      All-cons IsField coding_field []
      (record { name = token_read (codes "transfer-encoding") refl; raw = AllPass-from_list_all is_value_byte (codes " chunked") refl }) (All-nil IsField)

  fields_named : (kind : Kind) → AllByRecursion IsHeaderField (fields_of kind n)
  unfolding trim_ows
  fields_named get = tt
  fields_named head = tt
  fields_named sized = (record { name = IsFieldName-from_test (codes "content-length") refl; value = subst IsFieldValue (sym (blank_trimmed n fits)) length_value_valid }, tt)
  fields_named chunked =
      (record { name = IsFieldName-from_test (codes "transfer-encoding") refl; value = AllPass-from_list_all is_field_byte (codes "chunked") refl }, tt)

  headers_read : (kind : Kind) → headers_of kind n ≡ map header_of (fields_of kind n)
  headers_read get = refl
  headers_read head = refl
  headers_read sized = ap (λ value. record { name = codes "content-length"; value = value } ∷ []) (sym (blank_trimmed n fits))
  headers_read chunked = coding_headers n

  body_read : (kind : Kind) → 0 < n → body_kind 1 (method_of kind) (headers_of kind n) ≡ Some (body_of kind n)
  body_read get some = refl
  body_read head some = refl
  body_read sized some = rw (length_stated n fits, lt-ltb 0 n some) refl
  body_read chunked some = coding_body n

  connection_read : (kind : Kind) → (keep_alive ≡ connection_of 1 (headers_of kind n)) × (false ≡ expects_continue (headers_of kind n))
  connection_read get = (refl, refl)
  connection_read head = (refl, refl)
  connection_read sized = (refl, refl)
  connection_read chunked = (refl, refl)

-- ---- the whole head

-- the first line without its line end
abbrev pub first_line : Kind → ℕ → List ℕ
first_line kind k = method_of kind ++ (32 ∷ (target k ++ (32 ∷ print_version 1)))

-- what follows the target
behind_target : (method : List ℕ) (k : ℕ) (rest : List ℕ)
    → (method ++ (32 ∷ (target k ++ (32 ∷ print_version 1)))) ++ rest ≡ method ++ (codes " /" ++ (decimal k ++ (codes " HTTP/1.1" ++ rest)))
behind_target method k rest =
    append_assoc method (32 ∷ (target k ++ (32 ∷ print_version 1))) rest
    ∙ ap (λ (t : List ℕ). method ++ (32 ∷ 47 ∷ t)) (append_assoc (decimal k) (32 ∷ print_version 1) rest)

framing_fields : (kind : Kind) (n : ℕ) → framing_line kind n ≡ flat_map print_field (fields_of kind n)
framing_fields get n = refl
framing_fields head n = refl
framing_fields sized n = ap (λ (t : List ℕ). codes "content-length: " ++ t) (sym (append-nil (decimal n ++ crlf_bytes)))
framing_fields chunked n = refl

-- the head line by line
pub head_lines : (kind : Kind) (k n : ℕ) → head_text kind k n ≡ lines_text (first_line kind k) (fields_of kind n)
unfolding head_text
head_lines kind k n =
    ap (λ (t : List ℕ). method_of kind ++ (codes " /" ++ (decimal k ++ (codes " HTTP/1.1\r\n" ++ (t ++ codes "\r\n"))))) (framing_fields kind n)
    ∙ sym (behind_target (method_of kind) k (crlf_bytes ++ (flat_map print_field (fields_of kind n) ++ crlf_bytes)))

tree_lines : (kind : Kind) (k n : ℕ) → print_request (tree_of kind k n) ≡ lines_text (first_line kind k) (fields_of kind n)
unfolding print_request
tree_lines kind k n =
    let section = flat_map print_field (fields_of kind n) ++ crlf_bytes in
    append_assoc ((method_of kind ++ 32 ∷ target k) ++ 32 ∷ print_version 1) crlf_bytes section
    ∙ ap (λ (t : List ℕ). t ++ (crlf_bytes ++ section)) (append_assoc (method_of kind) (32 ∷ target k) (32 ∷ print_version 1))

module _ (kind : Kind) (k n : ℕ) (fits : k < 2 ^ 64) (some : 0 < n) (fits_len : n < 2 ^ 64) where
  grammar : IsRequestHead (tree_of kind k n)
  grammar =
      let low = low_target k fits in
      record {
        method = method_token kind;
        target = (omega arith, uri_bytes (target k) low);
        target_text = is_utf8 (target k) low;
        minor = lit≤ tt;
        fields = fields_valid n fits_len kind;
      }

  tree_text : head_text kind k n ≡ print_request (tree_of kind k n)
  tree_text = head_lines kind k n ∙ sym (tree_lines kind k n)

  is_head : IsHeadOf (head_text kind k n) (said kind k n)
  is_head =
      record {
        text = tree_of kind k n;
        reads = (grammar, tree_text ∙ sym (append-nil (print_request (tree_of kind k n))));
        method_is = ((method_name kind).0, refl);
        target_is = (is_target k fits, refl);
        minor_is = refl;
        fields = fields_named n fits_len kind;
        headers_are = headers_read n fits_len kind;
        body_is = body_read n fits_len kind some;
        connection_is = (connection_read n fits_len kind).0;
        expects_is = (connection_read n fits_len kind).1;
      }

  few_lines : header_lines (head_text kind k n) ≤ MAX_HEADER_LINES
  few_lines = omega (arith, ap header_lines tree_text, feeds-head (tree_of kind k n) grammar, few_fields kind n)

  -- it is read as this head
  pub is_reading : IsReading (head_text kind k n) (head_is (said kind k n))
  is_reading = (few_lines, is_head)

  is_first : IsFirstLine (first_line kind k)
  is_first =
      let method = method_of kind in
      let behind = 32 ∷ (target k ++ (32 ∷ print_version 1)) in
      record {
        one_line = omega (
          arith,
          feeds-append method behind,
          feeds-append (32 ∷ target k) (32 ∷ print_version 1),
          feeds-token method (method_token kind).1,
          feeds-none is_uri_byte refl (target k) (uri_bytes (target k) (low_target k fits)),
        );
        begins = λ rest. subst (λ (t : List ℕ). ¬ (BeginsBlank t)) (sym (append_assoc method behind rest)) (token_begins method (behind ++ rest) (method_token kind));
      }

  -- it is a whole head, whatever follows
  pub is_piece : (rest : List ℕ) → IsHeadPiece (head_text kind k n ++ rest) 0 (length (head_text kind k n))
  is_piece rest =
      subst (λ (t : List ℕ). IsHeadPiece (t ++ rest) 0 (length t)) (sym (head_lines kind k n))
      (whole_head (first_line kind k) (fields_of kind n) rest is_first (fields_valid n fits_len kind))
