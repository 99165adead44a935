-- Each piece has a reading.
use Rattle.std.proofs.Common.{◌≡◌, ℕ, List, [], length, map, Option, Some, None, refl, sym, ◌∙◌, subst, inl, inr}
use Rattle.std.specs.List.{AllByRecursion}
use Rattle.std.proofs.lemmas.Bool.{cases_lt}
use Rattle.httparse.specs.Grammar.{RequestHead, ReadsRequest, Field, field_value}
use Rattle.httparse.proofs.GrammarLemmas.{request_unique}
use Rattle.http_header.specs.Token.{IsToken, is_token_byte, is_value_byte}
use Rattle.model_h1.specs.Limits.{MAX_HEADER_LINES}
use Rattle.model_h1.specs.HeadPiece.{header_lines}
use Rattle.model_h1.specs.LengthTable.{body_kind, connection_of, expects_continue}
use Rattle.model_h1.specs.Request.{BodyKind, Head, too_large, malformed, Reading, head_is, faulty}
use Rattle.model_h1.specs.RequestHead.{IsTarget, IsHeaderField, header_of, IsHeadOf, IsReading, IsReadingWithin}
use Rattle.model_h1.proofs.Decisions.{dec_like, dec_both, dec_pass, dec_below, dec_most, dec_by_recursion}
use Rattle.model_h1.proofs.RequestDecisions.{request_decided}
use Rattle.model_h1.proofs.TargetDecisions.{target_decided}

-- a token
dec_token : (text : List ℕ) → Dec (IsToken text)
dec_token text = dec_both (dec_below 0 (length text)) (dec_pass is_token_byte text)

-- a field line's name and value
pub dec_header : (f : Field) → Dec (IsHeaderField f)
dec_header f =
    dec_like (λ x. record { name = x.0; value = x.1 }) (λ x. (x.name, x.value))
    (dec_both (dec_both (dec_token f.name) (dec_most (length f.name) 65535)) (dec_pass is_value_byte (field_value f)))

-- a value, if there is one
pub dec_some : {A : Type 0} → (o : Option A) → Dec ((x : A) × (o ≡ Some x))
dec_some None = no (λ x. none_some x.0 x.1)
  where
    none_some : {A : Type 0} → (x : A) → None ≡ Some x → ⊥
    none_some x e = cc
dec_some (Some x) = yes (x, refl)

-- what a text has to be, so that it is that of a head
abbrev IsGood : RequestHead → Type 0
IsGood text =
    IsToken text.method × (IsTarget text.target
    × (AllByRecursion IsHeaderField text.fields × ((b : BodyKind) × (body_kind text.minor text.method (map header_of text.fields) ≡ Some b))))

-- each part is decided
dec_good : (text : RequestHead) → Dec (IsGood text)
dec_good text =
    dec_both (dec_token text.method) (dec_both (target_decided text.target)
    (dec_both (dec_by_recursion IsHeaderField dec_header text.fields) (dec_some (body_kind text.minor text.method (map header_of text.fields)))))

-- the head of such a text
head_from : (piece : List ℕ) (text : RequestHead) → ReadsRequest piece text [] → IsGood text → (h : Head) × IsHeadOf piece h
head_from piece text reads x =
    let headers = map header_of text.fields in
    let h : Head = record {
      method = text.method;
      target = text.target;
      minor = text.minor;
      headers = headers;
      body = x.1.1.1.0;
      connection = connection_of text.minor headers;
      expects = expects_continue headers;
    } in (
      h,
      record {
        text = text;
        reads = reads;
        method_is = (x.0, refl);
        target_is = (x.1.0, refl);
        minor_is = refl;
        fields = x.1.1.0;
        headers_are = refl;
        body_is = x.1.1.1.1;
        connection_is = refl;
        expects_is = refl;
      },
    )

-- the text of a head is such a text
good_from : (piece : List ℕ) (h : Head) → (x : IsHeadOf piece h) → IsGood x.text
good_from piece h x =
    let body : body_kind x.text.minor x.text.method (map header_of x.text.fields) ≡ Some h.body =
    (λ i. body_kind (sym x.minor_is i) (sym x.method_is.1 i) (sym x.headers_are i)) ∙ x.body_is in
    (x.method_is.0, (x.target_is.0, (x.fields, (h.body, body))))

-- a piece is the text of a head or isn't
pub head_decided : (piece : List ℕ) → Dec ((h : Head) × IsHeadOf piece h)
head_decided piece =
    elim (request_decided piece) [
      | no none ↦ no (λ x. none (x.1.text, x.1.reads))
      | yes text ↦ dec_like (head_from piece text.0 text.1)
          (λ x. subst IsGood (request_unique piece x.1.text text.0 [] [] x.1.reads text.1).0 (good_from piece x.0 x.1)) (dec_good text.0)
    ]

-- each piece has a reading
pub reading_of : (piece : List ℕ) → (r : Reading) × IsReading piece r
reading_of piece =
    elim (cases_lt MAX_HEADER_LINES (header_lines piece)) [
      | inl many ↦ (faulty too_large, many)
      | inr few ↦ elim (head_decided piece) [
        | yes x ↦ (head_is x.0, (few, x.1))
        | no none ↦ (faulty malformed, (few, λ h x. none (h, x)))
      ]
    ]

-- and one within a size
pub reading_within_of : (size : ℕ) (piece : List ℕ) → (r : Reading) × IsReadingWithin size piece r
reading_within_of size piece =
    elim (cases_lt size (length piece)) [
      | inl long ↦ (faulty too_large, inr (long, refl))
      | inr fits ↦
          let r = reading_of piece in
          (r.0, inl (fits, r.1))
    ]
