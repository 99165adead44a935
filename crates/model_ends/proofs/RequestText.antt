-- The text of a plain request's head is read back as it was written.
use Rattle.std.proofs.Common.{◌≡◌, ℕ, ◌<◌, ◌^◌, true, false, not, ◌&&◌, ◌||◌, List, [], ◌∷◌, ◌++◌, map, flat_map, cond, eqb, refl, sym, ap, ◌∙◌, subst, inl, inr, arith, append_assoc, append-nil, lt-ltb, le-ltb, Option, Some, None}
use Rattle.std.specs.Prelude.{codes, nat_lt, unwrap_or, zero, suc}
use Rattle.std.proofs.lemmas.Bool.{cond-true, cond-false, cases_eq, eq-eqb, ne_eqb}
use Rattle.httparse.specs.Ascii.{crlf_bytes, space}
use Rattle.httparse.specs.Grammar.{trim_ows, crlf, print_field, print_version, RequestHead, print_request}
use Rattle.model_h1.specs.Request.{Header, ConnectionType, BodyKind, chunked_body, raw_body}
use Rattle.model_h1.specs.RequestHead.{IsHeadOf}
use Rattle.model_h1.specs.LengthTable.{values_of, says, stated_length, is_length_refused, is_coding_refused, is_there, plain_body, body_kind}
use Rattle.std.specs.List.{list_any}
use Rattle.model_h1.specs.Answer.{BodySize, size_none, size_of, size_stream, Shape, shape_none, shape_length, shape_chunked, is_raw}
use Rattle.model_h1.specs.AnswerText.{by_name}
use Rattle.model_client.specs.WrittenHead.{size_lines}
use Rattle.model_client.specs.RequestText.{AskedHead, as_answer, request_lines, request_text, kind_of_shape, head_said, asked_shape, fits, IsPlainRequest}
use Rattle.model_ends.proofs.WrittenHead.{field_of, fields_text, fields_valid, fields_same, fields_are}
use Rattle.model_ends.proofs.Framing.{framing_alone, no_length, no_coding, length_read}

-- ---- the tree

abbrev tree : AskedHead → List Header → RequestHead
tree r lines = record {
  blank = [];
  method = r.method;
  target = r.target;
  minor = r.minor;
  line_end = crlf;
  fields = map (field_of r.in_camel_case) lines;
  last = crlf;
}

text_is_tree : (r : AskedHead) (shape : Shape) (size : BodySize) (kind : ConnectionType) (now : ℕ)
    → request_text r shape size kind now ≡ print_request (tree r (request_lines r shape size kind now))
unfolding print_request request_text
text_is_tree r shape size kind now =
    let lines = request_lines r shape size kind now in
    let fields = flat_map print_field (map (field_of r.in_camel_case) lines) in
    let section = fields ++ crlf_bytes in
    let version = space ∷ print_version r.minor in
    let target = space ∷ r.target in
    ap (λ t. r.method ++ space ∷ (r.target ++ space ∷ (print_version r.minor ++ (crlf_bytes ++ (t ++ crlf_bytes))))) (fields_text r.in_camel_case lines)
    ∙ sym (append_assoc ((r.method ++ target) ++ version) crlf_bytes section
    ∙ append_assoc (r.method ++ target) version (crlf_bytes ++ section)
    ∙ append_assoc r.method target (version ++ (crlf_bytes ++ section)))

-- ---- what the lines frame

-- the kind by the lines that matter, in HTTP/1.1
abbrev read_by : List ℕ → List (List ℕ) → List (List ℕ) → List (List ℕ) → Option BodyKind
read_by method lengths codings upgrades =
    cond (is_length_refused lengths || is_coding_refused 1 codings || (is_there lengths && is_there codings) || false) None (Some
    (cond (is_there codings) chunked_body (cond (list_any (λ value. says value (codes "websocket")) upgrades) raw_body
    (plain_body method (unwrap_or (stated_length lengths) 0)))))

kind_by : (minor : ℕ) (method : List ℕ) (lines : List Header) → minor ≡ 1
    → body_kind minor method lines ≡ read_by method (values_of (codes "content-length") lines) (values_of (codes "transfer-encoding") lines) (values_of (codes "upgrade") lines)
kind_by minor method lines eleven = ap (λ m. body_kind m method lines) eleven

module _ (r : AskedHead) (shape : Shape) (size : BodySize) (kind : ConnectionType) (now : ℕ) (x : IsPlainRequest r shape size kind now)
    (framed : is_raw shape ≡ false) where
  own : (eqb 200 304 || (is_raw shape && not (eqb 200 101))) ≡ false
  own = ap (λ t. t && true) framed

  read_lines : body_kind r.minor r.method (request_lines r shape size kind now)
      ≡ read_by r.method (values_of (codes "content-length") (size_lines shape size)) (values_of (codes "transfer-encoding") (size_lines shape size)) (values_of (codes "upgrade") (size_lines shape size))
  read_lines =
      kind_by r.minor r.method (request_lines r shape size kind now) x.version
      ∙ (λ i. read_by r.method
      (framing_alone r.minor (as_answer r) shape size kind now (codes "content-length") refl refl (no_length (as_answer r) shape own (by_name r.headers)) i)
      (framing_alone r.minor (as_answer r) shape size kind now (codes "transfer-encoding") refl refl (no_coding (as_answer r) shape own (by_name r.headers)) i)
      (framing_alone r.minor (as_answer r) shape size kind now (codes "upgrade") refl refl x.no_upgrade i))

-- each size
chunked_read : (method : List ℕ) → read_by method [] (codes "chunked" ∷ []) [] ≡ Some chunked_body
unfolding trim_ows
chunked_read method = refl

-- what is to be shown of a shape
abbrev Reads : AskedHead → BodySize → ConnectionType → ℕ → Shape → Type 0
Reads r size kind now s =
    IsPlainRequest r s size kind now → body_kind r.minor r.method (request_lines r s size kind now) ≡ Some (kind_of_shape s)

above : (k : ℕ) → (k ≡ 0 → ⊥) → 0 < k
above zero other = absurd (other refl)
above (suc k) other = omega arith

empty_read : (r : AskedHead) (n : ℕ) (kind : ConnectionType) (now : ℕ) → n < 2 ^ 64 → n ≡ 0 → Reads r (size_of n) kind now shape_none
empty_read r n kind now fit none y =
    let other = y.no_connect in
    let zero_is : nat_lt 0 n ≡ false = le-ltb 0 n (omega arith) in
    read_lines r shape_none (size_of n) kind now y refl ∙ rw (length_read n fit, zero_is, other) refl

length_reads : (r : AskedHead) (n : ℕ) (kind : ConnectionType) (now : ℕ) → n < 2 ^ 64 → 0 < n → Reads r (size_of n) kind now (shape_length n)
length_reads r n kind now fit positive y =
    read_lines r (shape_length n) (size_of n) kind now y refl ∙ rw (length_read n fit, lt-ltb 0 n positive) refl

framed_kind : (r : AskedHead) (size : BodySize) (kind : ConnectionType) (now : ℕ) → fits size → Reads r size kind now (asked_shape size)
framed_kind r size_none kind now fit x =
    let other = x.no_connect in
    read_lines r shape_none size_none kind now x refl ∙ rw other refl
framed_kind r size_stream kind now fit x = read_lines r shape_chunked size_stream kind now x refl ∙ chunked_read r.method
framed_kind r (size_of n) kind now fit x =
    let by_length : Reads r (size_of n) kind now (asked_shape (size_of n)) = elim (cases_eq n 0) [
      | inl none ↦ subst (Reads r (size_of n) kind now) (sym (cond-true (eqb n 0) shape_none (shape_length n) (eq-eqb n 0 none))) (empty_read r n kind now fit none)
      | inr other ↦ subst (Reads r (size_of n) kind now) (sym (cond-false (eqb n 0) shape_none (shape_length n) (ne_eqb n 0 other))) (length_reads r n kind now fit (above n other))
    ] in
    by_length x

-- ---- the head

-- the text is that of the head, without empty lines in front
pub request_back : (r : AskedHead) (size : BodySize) (kind : ConnectionType) (now : ℕ) → IsPlainRequest r (asked_shape size) size kind now → fits size
    → (back : IsHeadOf (request_text r (asked_shape size) size kind now) (head_said r (asked_shape size) size kind now)) × (back.text.blank ≡ [])
request_back r size kind now x fit =
    let lines = request_lines r (asked_shape size) size kind now in
    let h = tree r lines in (
      record {
        text = h;
        reads = (
          record {
            method = x.token;
            target = x.visible;
            target_text = x.utf8;
            minor = omega (arith, x.version);
            fields = fields_valid r.in_camel_case lines x.lines;
          },
          text_is_tree r (asked_shape size) size kind now ∙ sym (append-nil (print_request h)),
        );
        method_is = (x.method, refl);
        target_is = (x.target, refl);
        minor_is = refl;
        fields = fields_are r.in_camel_case lines x.lines;
        headers_are = sym (fields_same r.in_camel_case lines x.lines);
        body_is = framed_kind r size kind now fit x;
        connection_is = refl;
        expects_is = refl;
      },
      refl,
    )

-- the head is read back
pub request_reads_back : (r : AskedHead) (size : BodySize) (kind : ConnectionType) (now : ℕ) → IsPlainRequest r (asked_shape size) size kind now → fits size
    → IsHeadOf (request_text r (asked_shape size) size kind now) (head_said r (asked_shape size) size kind now)
request_reads_back r size kind now x fit = (request_back r size kind now x fit).0
