-- What a piece is read as, by the parts of an answer that the spans cover.
use Rattle.std.proofs.Common.{◌≡◌, ℕ, ◌≤◌, ◌<◌, Bool, true, false, List, [], length, map, take, All, Some, refl, sym, ap, ◌∙◌, subst, inl, inr, arith}
use Rattle.std.specs.Prelude.{◌⊎◌, IfOk, IfErr, Result, Ok, Err}
use Rattle.std.specs.List.{AllByRecursion}
use Rattle.httparse.specs.Grammar.{ResponseHead, ReadsResponse, status_code}
use Rattle.httparse.specs.Spans.{header_bytes}
use Rattle.httparse.specs.declared.spans.HeaderSpan.{HeaderSpan}
use Rattle.httparse.specs.declared.spans.ResponseSpans.{ResponseSpans}
use Rattle.httparse.proofs.GrammarLemmas.{response_unique}
use Rattle.http_types.specs.declared.error.ParseError.{ParseError}
use Rattle.http_types.specs.declared.error.ParseError.TheVariants.{Version, Status, Header as HeaderError, TooLarge}
use Rattle.http_framing.specs.Kinds.{kind_of}
use Rattle.model_h1.specs.HeadPiece.{header_lines}
use Rattle.model_h1.specs.Limits.{MAX_HEADER_LINES}
use Rattle.model_h1.specs.Request.{BodyKind, malformed}
use Rattle.model_h1.specs.RequestHead.{IsHeaderField, header_of}
use Rattle.model_client.specs.AnswerReading.{Answer, answer_is, refused, HasNoText, IsTextOf, IsAnswerOf, IsAnswerReading}
use Rattle.model_client.specs.AnswerTable.{answer_kind}
use Rattle.model_client.specs.LaxText.{unpadded}
use Rattle.h1_decoder.specs.declared.response.ResponseItem.{ResponseItem}
use Rattle.h1_decoder.specs.AnswerParts.{answer_parts_at, answer_headers, answer_from, AreAnswerParts, RefusesAnswerParts}
use Rattle.h1_decoder.specs.AnswerRefusal.{IsWholeAnswerAt, IsEitherText, IsAnswerText, IsNoAnswerText, RefusesAnswerLines, RefusesAnswer}
use Rattle.http_framing.specs.HeaderLines.{HasName, line_header}
use Rattle.h1_decoder.specs.Lines.{HasValue}
use Rattle.h1_decoder.specs.Refusal.{UnlessNoMemory, fault_of}
use Rattle.h1_decoder.specs.ResponseItem.{SaysAnswer}
use Rattle.h1_decoder.specs.WholeHead.{IsOfGrammar}
use Rattle.model_h1.proofs.LineFeeds.{few_answer_fields}
use Rattle.h1_decoder.proofs.LaxCopyLemmas.{lines_of_copy}
use Rattle.h1_decoder.proofs.ReadingLemmas.{values_of_fields, line_headers, fields_named, names_of_fields}

-- the values that the spans of a whole head cover are values of headers, and trimmed
pub answer_values : (piece text : List ℕ) (all : List HeaderSpan) (spans : ResponseSpans) → text ≡ piece → IsWholeAnswerAt text all spans
    → All HasValue (map (header_bytes piece) (take spans.headers all))
answer_values piece text all spans same whole =
    subst (λ (t : List ℕ). All HasValue (map (header_bytes t) (take spans.headers all))) same
    (subst (All HasValue) (sym whole.at.fields) (values_of_fields whole.head.fields whole.whole.0.fields))

-- a status or lines that no answer has, by the name of the error
abbrev RefusesPartsOf : ParseError → ResponseHead → Type 0
RefusesPartsOf Status text = status_code text < 100
RefusesPartsOf HeaderError text = (100 ≤ status_code text) × RefusesAnswerLines text
RefusesPartsOf _ text = ⊥

module _ (text : List ℕ) (all : List HeaderSpan) (spans : ResponseSpans) (whole : IsWholeAnswerAt text all spans) where
  headers_are : answer_headers (answer_parts_at text spans (take spans.headers all)) ≡ map header_of whole.head.fields
  headers_are = ap (map line_header) whole.at.fields ∙ line_headers whole.head.fields

  -- the parts of a whole head are those of the answer with these parts
  pub is_text : (is_lax : Bool) (body : BodyKind) → AreAnswerParts (answer_parts_at text spans (take spans.headers all)) body
      → IsTextOf text (answer_from is_lax (answer_parts_at text spans (take spans.headers all)) body)
  is_text is_lax body parts = record {
    text = whole.head;
    reads = whole.whole;
    minor_is = whole.at.version;
    status_is = (subst (λ (n : ℕ). 100 ≤ n) whole.at.code parts.status_is, whole.at.code);
    reason_is = whole.at.reason;
    fields = fields_named whole.head.fields (values_of_fields whole.head.fields whole.whole.0.fields) (subst (All HasName) whole.at.fields parts.names_are);
    headers_are = headers_are;
    body_is = parts.body_is;
    connection_is = refl;
  }

  -- the lines of the text frame a body as those that the spans cover do
  same_kind : answer_kind whole.head.minor (status_code whole.head) (map header_of whole.head.fields)
      ≡ answer_kind spans.version spans.code (answer_headers (answer_parts_at text spans (take spans.headers all)))
  same_kind =
      ap (λ (m : ℕ). answer_kind m (status_code whole.head) (map header_of whole.head.fields)) (sym whole.at.version)
      ∙ ap (λ (n : ℕ). answer_kind spans.version n (map header_of whole.head.fields)) (sym whole.at.code)
      ∙ ap (answer_kind spans.version spans.code) (sym headers_are)

  refused_parts : (e : ParseError) → RefusesAnswerParts e (answer_parts_at text spans (take spans.headers all)) → RefusesPartsOf e whole.head
  refused_parts Status low = subst (λ (n : ℕ). n < 100) whole.at.code low
  refused_parts HeaderError (high, lines) = (
    subst (λ (n : ℕ). 100 ≤ n) whole.at.code high,
    elim lines [
      | inl names ↦ inl (λ fields. names (subst (All HasName) (sym whole.at.fields) (names_of_fields whole.head.fields fields)))
      | inr none ↦ inr (same_kind ∙ none)
    ],
  )
  refused_parts _ none = absurd none

-- a text whose parts are refused is a piece that is
refuses_piece : (piece : List ℕ) (text : ResponseHead) → IsAnswerText piece text → (e : ParseError) → RefusesPartsOf e text → RefusesAnswer e piece
refuses_piece piece text is Status low = inr (text, is, low)
refuses_piece piece text is HeaderError (high, lines) = inr (text, is, high, lines)
refuses_piece piece text is _ none = absurd none

-- a piece of an error of the grammar, whose laxer copy is no text either
pub refuses_both : (piece : List ℕ) (e : ParseError) → IsOfGrammar e → IsNoAnswerText piece → RefusesAnswer e piece
refuses_both piece Version is none = none
refuses_both piece Status is none = inl none
refuses_both piece HeaderError is none = inl none
refuses_both piece _ is none = absurd is

-- ---- a piece that is refused has no reading

-- the text has a status, names and lines that an answer with this body has
abbrev IsGood : BodyKind → ResponseHead → Type 0
IsGood body t =
    (100 ≤ status_code t) × AllByRecursion IsHeaderField t.fields
    × (answer_kind t.minor (status_code t) (map header_of t.fields) ≡ Some body)

good : (buf : List ℕ) (a : Answer) → (x : IsTextOf buf a) → IsGood a.body x.text
good buf a x = (
  x.status_is.0,
  x.fields,
  (λ i. answer_kind (sym x.minor_is i) (sym x.status_is.1 i) (sym x.headers_are i)) ∙ x.body_is,
)

good_there : (buf : List ℕ) (text : ResponseHead) (a : Answer) → ReadsResponse buf text [] → IsTextOf buf a → IsGood a.body text
good_there buf text a reads x = subst (IsGood a.body) (response_unique buf x.text text [] [] x.reads reads).0 (good buf a x)

-- the text that an answer is of is this one
one_text : (piece : List ℕ) (text : ResponseHead) → IsEitherText piece text → (a : Answer) → IsAnswerOf piece a → IsGood a.body text
one_text piece text (inl reads) a (inl x) = good_there piece text a reads x.1
one_text piece text (inl reads) a (inr x) = absurd (x.1 text reads)
one_text piece text (inr other) a (inl x) = absurd (other.0 x.1.text x.1.reads)
one_text piece text (inr other) a (inr x) = good_there (unpadded piece) text a other.1 x.2

no_answer : (piece : List ℕ) → IsNoAnswerText piece → IsAnswerReading piece (refused malformed)
no_answer piece none = (
  none.0,
  λ a x. elim x [
    | inl y ↦ none.1 y.1.text y.1.reads
    | inr y ↦ none.2 y.2.text y.2.reads
  ],
)

-- what is refused is read as the fault that the error names
pub reads_refused : (piece : List ℕ) (e : ParseError) → RefusesAnswer e piece → IsAnswerReading piece (refused (fault_of e))
reads_refused piece TooLarge many = many
reads_refused piece Version none = no_answer piece none
reads_refused piece Status (inl none) = no_answer piece none
reads_refused piece Status (inr (text, is, low)) =
    (is.few, λ a x. let high = (one_text piece text is.reads a x).0 in absurd (omega (arith, low, high)))
reads_refused piece HeaderError (inl none) = no_answer piece none
reads_refused piece HeaderError (inr (text, is, high, lines)) = (
  is.few,
  λ a x. let good = one_text piece text is.reads a x in elim lines [
    | inl names ↦ names good.1
    | inr none ↦ (let some = good.2 in let no : ⊥ = cc in no)
  ],
)
reads_refused piece _ none = absurd none

-- the fault of what is refused
pub answer_faults : {T : Type 0} (piece : List ℕ) (r : Result T ParseError)
    → IfErr r (λ e. UnlessNoMemory e (RefusesAnswer e piece)) → IfErr r (λ e. UnlessNoMemory e (IsAnswerReading piece (refused (fault_of e))))
answer_faults piece (Ok item) cause = tt
answer_faults piece (Err e) cause = λ ne. reads_refused piece e (cause ne)

-- ---- the whole of an answer that was read, or of one that was refused

-- how an answer of this text is one of the piece
abbrev pub IsTaken : List ℕ → List ℕ → Bool → Type 0
IsTaken piece text is_lax = (header_lines piece ≤ MAX_HEADER_LINES)
    × (((is_lax ≡ false) × (text ≡ piece)) ⊎ ((is_lax ≡ true) × HasNoText piece × (text ≡ unpadded piece)))

module _ (piece text : List ℕ) (all : List HeaderSpan) (spans : ResponseSpans) (is_lax : Bool)
    (taken : IsTaken piece text is_lax) (whole : IsWholeAnswerAt text all spans) where
  pub answers_whole : (r : Result ResponseItem ParseError)
      → IfOk r (λ item. AreAnswerParts (answer_parts_at text spans (take spans.headers all)) (kind_of item.body))
      → IfOk r (λ item. SaysAnswer item (answer_from is_lax (answer_parts_at text spans (take spans.headers all)) (kind_of item.body)))
      → IfOk r (λ item. (a : Answer) × IsAnswerReading piece (answer_is a) × SaysAnswer item a)
  answers_whole (Err e) are says = tt
  answers_whole (Ok item) are says =
      let a = answer_from is_lax (answer_parts_at text spans (take spans.headers all)) (kind_of item.body) in
      let here : IsTextOf text a = is_text text all spans whole is_lax (kind_of item.body) are in
      (a, (taken.0, answer_of here taken.1), says)
    where
      answer_of : IsTextOf text (answer_from is_lax (answer_parts_at text spans (take spans.headers all)) (kind_of item.body))
          → ((is_lax ≡ false) × (text ≡ piece)) ⊎ ((is_lax ≡ true) × HasNoText piece × (text ≡ unpadded piece))
          → IsAnswerOf piece (answer_from is_lax (answer_parts_at text spans (take spans.headers all)) (kind_of item.body))
      answer_of here (inl (strict, same)) =
          inl (strict, subst (λ (t : List ℕ). IsTextOf t (answer_from is_lax (answer_parts_at text spans (take spans.headers all)) (kind_of item.body))) same here)
      answer_of here (inr (lax, none, same)) =
          inr (lax, none, subst (λ (t : List ℕ). IsTextOf t (answer_from is_lax (answer_parts_at text spans (take spans.headers all)) (kind_of item.body))) same here)

  either : IsEitherText piece whole.head
  either = elim taken.1 [
    | inl (strict, same) ↦ inl (subst (λ (t : List ℕ). ReadsResponse t whole.head []) same whole.whole)
    | inr (lax, none, same) ↦ inr (none, subst (λ (t : List ℕ). ReadsResponse t whole.head []) same whole.whole)
  ]

  pub answer_causes : {T : Type 0} (r : Result T ParseError)
      → IfErr r (λ e. UnlessNoMemory e (RefusesAnswerParts e (answer_parts_at text spans (take spans.headers all))))
      → IfErr r (λ e. UnlessNoMemory e (RefusesAnswer e piece))
  answer_causes (Ok item) causes = tt
  answer_causes (Err e) causes = λ ne.
      refuses_piece piece whole.head (record { few = taken.0; reads = either }) e (refused_parts text all spans whole e (causes ne))

-- ---- a text that a parse of few fields finds in it is none, where it has few lines

pub piece_is_no_text : (piece text : List ℕ) → text ≡ piece → header_lines piece ≤ MAX_HEADER_LINES
    → ((h : ResponseHead) → ReadsResponse text h [] → MAX_HEADER_LINES < length h.fields) → HasNoText piece
piece_is_no_text piece text same few none = λ h reads.
    let many = none h (subst (λ (t : List ℕ). ReadsResponse t h []) (sym same) reads) in
    omega (arith, many, few, few_answer_fields piece h reads)

pub copy_is_no_text : (piece text : List ℕ) → text ≡ unpadded piece → header_lines piece ≤ MAX_HEADER_LINES
    → ((h : ResponseHead) → ReadsResponse text h [] → MAX_HEADER_LINES < length h.fields) → HasNoText (unpadded piece)
copy_is_no_text piece text same few none =
    piece_is_no_text (unpadded piece) text same (omega (arith, few, lines_of_copy piece)) none
