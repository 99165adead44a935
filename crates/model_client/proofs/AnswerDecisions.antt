-- Each piece has a reading as an answer.
use Rattle.std.proofs.Common.{◌≡◌, ℕ, ◌≤◌, Bool, true, false, List, [], length, map, Option, Some, None, refl, sym, ◌∙◌, subst, inl, inr}
use Rattle.std.specs.List.{AllByRecursion}
use Rattle.std.proofs.lemmas.Bool.{cases_lt}
use Rattle.httparse.specs.Grammar.{ResponseHead, ReadsResponse, status_code, reason_phrase}
use Rattle.httparse.proofs.GrammarLemmas.{response_unique}
use Rattle.model_h1.specs.Limits.{MAX_HEADER_LINES}
use Rattle.model_h1.specs.HeadPiece.{header_lines}
use Rattle.model_h1.specs.Request.{BodyKind, too_large, malformed}
use Rattle.model_h1.specs.RequestHead.{IsHeaderField, header_of}
use Rattle.model_h1.proofs.Decisions.{dec_like, dec_both, dec_most, dec_by_recursion}
use Rattle.model_h1.proofs.ReadingDecisions.{dec_header, dec_some}
use Rattle.model_client.specs.AnswerTable.{answer_kind, answer_connection}
use Rattle.model_client.specs.LaxText.{unpadded}
use Rattle.model_client.specs.AnswerReading.{Answer, AnswerReading, answer_is, refused, IsTextOf, IsAnswerOf, IsAnswerReading, IsAnswerReadingWithin}
use Rattle.model_client.proofs.ResponseDecisions.{response_decided}

-- the body that the lines of a text frame
abbrev framed : ResponseHead → Option BodyKind
framed text = answer_kind text.minor (status_code text) (map header_of text.fields)

-- what a text has to be, so that it is that of an answer
abbrev IsGood : ResponseHead → Type 0
IsGood text = (100 ≤ status_code text) × (AllByRecursion IsHeaderField text.fields × ((b : BodyKind) × (framed text ≡ Some b)))

-- each part is decided
dec_good : (text : ResponseHead) → Dec (IsGood text)
dec_good text =
    dec_both (dec_most 100 (status_code text)) (dec_both (dec_by_recursion IsHeaderField dec_header text.fields) (dec_some (framed text)))

-- the answer of such a text
abbrev answer_from : Bool → (text : ResponseHead) → IsGood text → Answer
answer_from lax text x =
    let headers = map header_of text.fields in record {
      minor = text.minor;
      status = status_code text;
      reason = reason_phrase text.reason;
      headers = headers;
      body = x.1.1.0;
      connection = answer_connection text.minor (status_code text) headers x.1.1.0;
      is_lax = lax;
    }

-- it is that text's
text_from : (lax : Bool) (piece : List ℕ) (text : ResponseHead) → ReadsResponse piece text [] → (x : IsGood text) → IsTextOf piece (answer_from lax text x)
text_from lax piece text reads x = record {
  text = text;
  reads = reads;
  minor_is = refl;
  status_is = (x.0, refl);
  reason_is = refl;
  fields = x.1.0;
  headers_are = refl;
  body_is = x.1.1.1;
  connection_is = refl;
}

-- the text of an answer is such a text
good_from : (piece : List ℕ) (a : Answer) → (x : IsTextOf piece a) → IsGood x.text
good_from piece a x =
    let body : framed x.text ≡ Some a.body = (λ i. answer_kind (sym x.minor_is i) (sym x.status_is.1 i) (sym x.headers_are i)) ∙ x.body_is in
    (x.status_is.0, (x.fields, (a.body, body)))

-- a text is that of an answer or isn't
abbrev HasAnswer : Bool → List ℕ → Type 0
HasAnswer lax piece = (a : Answer) × ((a.is_lax ≡ lax) × IsTextOf piece a)

text_decided : (lax : Bool) (piece : List ℕ) (text : ResponseHead) → ReadsResponse piece text [] → Dec (HasAnswer lax piece)
text_decided lax piece text reads =
    dec_like (λ x. (answer_from lax text x, (refl, text_from lax piece text reads x)))
    (λ x. subst IsGood (response_unique piece x.1.1.text text [] [] x.1.1.reads reads).0 (good_from piece x.0 x.1.1)) (dec_good text)

-- a piece is read as an answer or isn't
answer_decided : (piece : List ℕ) → Dec ((a : Answer) × IsAnswerOf piece a)
answer_decided piece =
    elim (response_decided piece) [
      | yes text ↦ dec_like (λ x. (x.0, inl x.1)) (λ x. strict text x.0 x.1) (text_decided false piece text.0 text.1)
      | no none ↦ by_second none (response_decided (unpadded piece))
    ]
  where
    strict : ((h : ResponseHead) × ReadsResponse piece h []) → (a : Answer) → IsAnswerOf piece a → HasAnswer false piece
    strict text a (inl x) = (a, x)
    strict text a (inr x) = absurd (x.1 text.0 text.1)

    lax : ¬ ((h : ResponseHead) × ReadsResponse piece h []) → (a : Answer) → IsAnswerOf piece a → HasAnswer true (unpadded piece)
    lax none a (inl x) = absurd (none (x.1.text, x.1.reads))
    lax none a (inr x) = (a, (x.0, x.2))

    by_second : ¬ ((h : ResponseHead) × ReadsResponse piece h []) → Dec ((h : ResponseHead) × ReadsResponse (unpadded piece) h [])
        → Dec ((a : Answer) × IsAnswerOf piece a)
    by_second none (yes text) =
        dec_like (λ x. (x.0, inr (x.1.0, (λ h reads. none (h, reads)), x.1.1))) (λ x. lax none x.0 x.1) (text_decided true (unpadded piece) text.0 text.1)
    by_second none (no none') = no (λ x. neither (lax none x.0 x.1))
      where
        neither : HasAnswer true (unpadded piece) → ⊥
        neither y = none' (y.1.1.text, y.1.1.reads)

-- each piece has a reading
answer_reading_of : (piece : List ℕ) → (r : AnswerReading) × IsAnswerReading piece r
answer_reading_of piece =
    elim (cases_lt MAX_HEADER_LINES (header_lines piece)) [
      | inl many ↦ (refused too_large, many)
      | inr few ↦ elim (answer_decided piece) [
        | yes x ↦ (answer_is x.0, (few, x.1))
        | no none ↦ (refused malformed, (few, λ a x. none (a, x)))
      ]
    ]

-- and one within a limit
pub answer_within_of : (limit : Option ℕ) (piece : List ℕ) → (r : AnswerReading) × IsAnswerReadingWithin limit piece r
answer_within_of None piece = answer_reading_of piece
answer_within_of (Some size) piece =
    elim (cases_lt size (length piece)) [
      | inl long ↦ (refused too_large, inr (long, refl))
      | inr fits ↦
          let r = answer_reading_of piece in
          (r.0, inl (fits, r.1))
    ]

-- what the grammar takes is read by the first reading
pub never_lax : (piece : List ℕ) (a : Answer) (text : ResponseHead) → IsAnswerOf piece a → ReadsResponse piece text [] → a.is_lax ≡ false
never_lax piece a text (inl x) reads = x.0
never_lax piece a text (inr x) reads = absurd (x.1 text reads)
