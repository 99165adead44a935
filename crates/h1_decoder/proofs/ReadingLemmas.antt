-- What a piece is read as, by the parts that the spans cover.
use Rattle.std.proofs.Common.{◌≡◌, ℕ, List, [], ◌∷◌, map, take, All, Some, Result, Ok, Err, inl, inr, refl, sym, ap, ◌∙◌, subst}
use Rattle.std.specs.Prelude.{IfOk, IfErr, OnOk}
use Rattle.std.specs.List.{AllByRecursion}
use Rattle.std.proofs.lemmas.List.Elements.{All-nil, All-cons, All-head, All-tail}
use Rattle.httparse.specs.Grammar.{is_value_byte, Field, IsField, RequestHead}
use Rattle.httparse.proofs.TrimLemmas.{AllPass-trim_ows}
use Rattle.httparse.specs.Spans.{span_bytes, header_bytes, name_and_value}
use Rattle.httparse.specs.declared.spans.HeaderSpan.{HeaderSpan}
use Rattle.httparse.specs.declared.spans.RequestSpans.{RequestSpans}
use Rattle.httparse.proofs.GrammarLemmas.{request_unique}
use Rattle.http_header.specs.Token.{IsToken}
use Rattle.http_types.specs.declared.error.ParseError.{ParseError}
use Rattle.http_types.specs.declared.error.ParseError.TheVariants.{Method, Uri, Version, Status, Header as HeaderError, TooLarge}
use Rattle.model_h1.specs.LengthTable.{body_kind}
use Rattle.model_h1.specs.Request.{Head, BodyKind, head_is, faulty}
use Rattle.model_h1.specs.RequestHead.{IsReading, IsHeadOf, IsTarget, IsHeaderField, header_of}
use Rattle.h1_decoder.specs.declared.decoder.HeadItem.{HeadItem}
use Rattle.http_framing.specs.Kinds.{kind_of}
use Rattle.h1_decoder.specs.HeadItem.{SaysHead}
use Rattle.http_framing.specs.HeaderLines.{HasName, line_header}
use Rattle.h1_decoder.specs.Lines.{HasValue}
use Rattle.h1_decoder.specs.ReadParts.{parts_at, headers_of, head_of, AreParts, RefusesParts}
use Rattle.h1_decoder.specs.Refusal.{UnlessNoMemory, fault_of, IsTextOf, IsNoText, Refuses}
use Rattle.h1_decoder.specs.WholeHead.{IsWholeHeadAt, RefusesText}
use Rattle.h1_decoder.proofs.TrimLemmas.{trim_ows-again}

-- the values of fields are values of headers, and trimmed
pub values_of_fields : (fields : List Field) → All IsField fields → All HasValue (map name_and_value fields)
values_of_fields [] valid = All-nil HasValue
values_of_fields (f ∷ fields) valid =
    All-cons HasValue (name_and_value f) (map name_and_value fields)
    (record { valid = AllPass-trim_ows is_value_byte f.raw (All-head IsField f fields valid).raw; trimmed = trim_ows-again f.raw })
    (values_of_fields fields (All-tail IsField f fields valid))

-- so are those that the spans of a whole head cover
pub values_whole : (piece text : List ℕ) (all : List HeaderSpan) (spans : RequestSpans) → text ≡ piece → IsWholeHeadAt text all spans
    → All HasValue (map (header_bytes piece) (take spans.headers all))
values_whole piece text all spans same whole =
    subst (λ (t : List ℕ). All HasValue (map (header_bytes t) (take spans.headers all))) same
    (subst (All HasValue) (sym whole.at.fields) (values_of_fields whole.text.fields whole.whole.reads.0.fields))

-- field lines as lines of a head
pub line_headers : (fields : List Field) → map line_header (map name_and_value fields) ≡ map header_of fields
line_headers [] = refl
line_headers (f ∷ fields) = ap (λ later. header_of f ∷ later) (line_headers fields)

pub fields_named : (fields : List Field) → All HasValue (map name_and_value fields) → All HasName (map name_and_value fields) → AllByRecursion IsHeaderField fields
fields_named [] values names = tt
fields_named (f ∷ fields) values names = (
  record {
    name = All-head HasName (name_and_value f) (map name_and_value fields) names;
    value = (All-head HasValue (name_and_value f) (map name_and_value fields) values).valid;
  },
  fields_named fields (All-tail HasValue (name_and_value f) (map name_and_value fields) values) (All-tail HasName (name_and_value f) (map name_and_value fields) names),
)

pub names_of_fields : (fields : List Field) → AllByRecursion IsHeaderField fields → All HasName (map name_and_value fields)
names_of_fields [] valid = All-nil HasName
names_of_fields (f ∷ fields) valid = All-cons HasName (name_and_value f) (map name_and_value fields) valid.0.name (names_of_fields fields valid.1)

module _ (piece : List ℕ) (all : List HeaderSpan) (spans : RequestSpans) (whole : IsWholeHeadAt piece all spans) where
  headers_are : headers_of (parts_at piece spans (take spans.headers all)) ≡ map header_of whole.text.fields
  headers_are = ap (map line_header) whole.at.fields ∙ line_headers whole.text.fields

  -- the parts of a whole head are read as the head with these parts
  pub reads_whole : (body : BodyKind) → AreParts (parts_at piece spans (take spans.headers all)) body
      → IsReading piece (head_is (head_of (parts_at piece spans (take spans.headers all)) body))
  reads_whole body parts =
      let text = whole.text in
      let at = whole.at in (
        whole.whole.few,
        record {
          text = text;
          reads = whole.whole.reads;
          method_is = (subst IsToken at.method parts.method_is, at.method);
          target_is = (subst IsTarget at.path parts.target_is, at.path);
          minor_is = at.version;
          fields = fields_named text.fields (values_of_fields text.fields whole.whole.reads.0.fields) (subst (All HasName) at.fields parts.names_are);
          headers_are = headers_are;
          body_is = parts.body_is;
          connection_is = refl;
          expects_is = refl;
        },
      )

  -- the lines of the text frame a body as those that the spans cover do
  same_body : body_kind whole.text.minor whole.text.method (map header_of whole.text.fields)
      ≡ body_kind spans.version (span_bytes piece spans.method) (headers_of (parts_at piece spans (take spans.headers all)))
  same_body =
      let text = whole.text in
      ap (λ (m : ℕ). body_kind m text.method (map header_of text.fields)) (sym whole.at.version)
      ∙ ap (λ (w : List ℕ). body_kind spans.version w (map header_of text.fields)) (sym whole.at.method)
      ∙ ap (body_kind spans.version (span_bytes piece spans.method)) (sym headers_are)

  -- where the parts are refused, so is the piece
  pub refuses_whole : (e : ParseError) → RefusesParts e (parts_at piece spans (take spans.headers all)) → Refuses e piece
  refuses_whole Method refused = (whole.text, whole.whole, λ token. refused (subst IsToken (sym whole.at.method) token))
  refuses_whole Uri refused =
      (whole.text, whole.whole, subst IsToken whole.at.method refused.0, λ target. refused.1 (subst IsTarget (sym whole.at.path) target))
  refuses_whole HeaderError refused = inr (
    whole.text,
    whole.whole,
    subst IsToken whole.at.method refused.0,
    subst IsTarget whole.at.path refused.1,
    elim refused.2 [
      | inl names ↦ inl (λ fields. names (subst (All HasName) (sym whole.at.fields) (names_of_fields whole.text.fields fields)))
      | inr none ↦ inr (same_body ∙ none)
    ],
  )
  refuses_whole _ refused = absurd refused

-- a piece that is no text of the grammar, or has too many lines, is refused
pub refuses_text : (piece : List ℕ) (e : ParseError) → RefusesText e piece → Refuses e piece
refuses_text piece TooLarge refused = refused
refuses_text piece Version refused = refused
refuses_text piece Status refused = refused
refuses_text piece HeaderError refused = inl refused
refuses_text piece _ refused = absurd refused

-- a piece that is one text is no head but that of this text
module _ (piece : List ℕ) (text : RequestHead) (is : IsTextOf piece text) (h : Head) (head : IsHeadOf piece h) where
  one_text : head.text ≡ text
  one_text = (request_unique piece head.text text [] [] head.reads is.reads).0

  token_of : IsToken text.method
  token_of = subst (λ (t : RequestHead). IsToken t.method) one_text head.method_is.0

  target_of : IsTarget text.target
  target_of = subst (λ (t : RequestHead). IsTarget t.target) one_text head.target_is.0

  fields_of : AllByRecursion IsHeaderField text.fields
  fields_of = subst (λ (t : RequestHead). AllByRecursion IsHeaderField t.fields) one_text head.fields

  body_of : body_kind text.minor text.method (map header_of text.fields) ≡ Some h.body
  body_of =
      subst (λ (t : RequestHead). body_kind t.minor t.method (map header_of t.fields) ≡ Some h.body) one_text
      (ap (λ (m : ℕ). body_kind m head.text.method (map header_of head.text.fields)) (sym head.minor_is)
      ∙ ap (λ (w : List ℕ). body_kind h.minor w (map header_of head.text.fields)) (sym head.method_is.1)
      ∙ ap (body_kind h.minor h.method) (sym head.headers_are) ∙ head.body_is)

no_reading : (piece : List ℕ) → IsNoText piece → IsReading piece (faulty (fault_of HeaderError))
no_reading piece none = (none.0, λ h head. none.1 head.text head.reads)

-- what is refused is read as the fault that the error names
pub reads_fault : (piece : List ℕ) (e : ParseError) → Refuses e piece → IsReading piece (faulty (fault_of e))
reads_fault piece TooLarge refused = refused
reads_fault piece Version refused = no_reading piece refused
reads_fault piece Status refused = no_reading piece refused
reads_fault piece Method (text, is, no_token) = (is.few, λ h head. no_token (token_of piece text is h head))
reads_fault piece Uri (text, is, token, no_target) = (is.few, λ h head. no_target (target_of piece text is h head))
reads_fault piece HeaderError refused =
    elim refused [
      | inl none ↦ no_reading piece none
      | inr (text, is, token, target, lines) ↦ (
        is.few,
        λ h head. elim lines [
          | inl names ↦ names (fields_of piece text is h head)
          | inr none ↦ (let some = body_of piece text is h head in let no : ⊥ = cc in no)
        ],
      )
    ]
reads_fault piece _ refused = absurd refused

-- the whole of a head that was read, or of one that was refused
pub says_whole : (piece text : List ℕ) (all : List HeaderSpan) (spans : RequestSpans) (r : Result HeadItem ParseError)
    → text ≡ piece → IsWholeHeadAt text all spans
    → IfOk r (λ item. AreParts (parts_at piece spans (take spans.headers all)) (kind_of item.body))
    → IfOk r (λ item. SaysHead item (head_of (parts_at piece spans (take spans.headers all)) (kind_of item.body)))
    → IfOk r (λ item. (h : Head) × IsReading piece (head_is h) × SaysHead item h)
says_whole piece text all spans (Ok item) same whole parts says = (
  head_of (parts_at piece spans (take spans.headers all)) (kind_of item.body),
  reads_whole piece all spans (subst (λ (t : List ℕ). IsWholeHeadAt t all spans) same whole) (kind_of item.body) parts,
  says,
)
says_whole piece text all spans (Err e) same whole parts says = tt

-- the same of a head that was read over another
pub says_over : {T : Type 0} (piece text : List ℕ) (all : List HeaderSpan) (spans : RequestSpans) (item : HeadItem) (r : Result T ParseError)
    → text ≡ piece → IsWholeHeadAt text all spans
    → OnOk r (AreParts (parts_at piece spans (take spans.headers all)) (kind_of item.body))
    → OnOk r (SaysHead item (head_of (parts_at piece spans (take spans.headers all)) (kind_of item.body)))
    → OnOk r ((h : Head) × IsReading piece (head_is h) × SaysHead item h)
says_over piece text all spans item (Ok done) same whole parts says = (
  head_of (parts_at piece spans (take spans.headers all)) (kind_of item.body),
  reads_whole piece all spans (subst (λ (t : List ℕ). IsWholeHeadAt t all spans) same whole) (kind_of item.body) parts,
  says,
)
says_over piece text all spans item (Err e) same whole parts says = tt

pub causes_whole : {T : Type 0} (piece text : List ℕ) (all : List HeaderSpan) (spans : RequestSpans) (r : Result T ParseError)
    → text ≡ piece → IsWholeHeadAt text all spans
    → IfErr r (λ e. UnlessNoMemory e (RefusesParts e (parts_at piece spans (take spans.headers all))))
    → IfErr r (λ e. UnlessNoMemory e (Refuses e piece))
causes_whole piece text all spans (Ok item) same whole refused = tt
causes_whole piece text all spans (Err e) same whole refused =
    λ ne. refuses_whole piece all spans (subst (λ (t : List ℕ). IsWholeHeadAt t all spans) same whole) e (refused ne)

-- the fault behind the cause
pub faults : {T : Type 0} (piece : List ℕ) (r : Result T ParseError)
    → IfErr r (λ e. UnlessNoMemory e (Refuses e piece)) → IfErr r (λ e. UnlessNoMemory e (IsReading piece (faulty (fault_of e))))
faults piece (Ok item) cause = tt
faults piece (Err e) cause = λ ne. reads_fault piece e (cause ne)
