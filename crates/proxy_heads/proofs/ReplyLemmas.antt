-- What a client gets for an answer's head.
use Rattle.std.proofs.Common.{◌≡◌, ℕ, ◌≤◌, Bool, true, false, not, ◌&&◌, ◌||◌, if◌then◌else◌, eqb, List, [], ◌∷◌, ◌++◌, map, get_or, bytes_eq, codes, Option, Some, None, refl, sym, ap, ◌∙◌, subst, inl, inr}
use Rattle.std.specs.Prelude.{nat_le, nat_lt, IsUtf8, slice_get}
use Rattle.std.specs.Str.{is_utf8}
use Rattle.std.specs.List.{list_any, Any, IsDistinct}
use Rattle.std.proofs.lemmas.Bool.{false≢true, eqb-true, le-leb}
use Rattle.std.proofs.lemmas.List.Folds.{list_any_none, list_any-from_Any}
use Rattle.std.proofs.lemmas.Str.{is_utf8-from_IsUtf8, IsUtf8-from_is_utf8}
use Rattle.httparse.specs.Grammar.{is_value_byte, reason_phrase, trim_ows}
use Rattle.http_header.specs.FieldValue.{FieldValue}
use Rattle.http_map.specs.HeaderMap.{Entries, keys, get_all}
use Rattle.http_types.specs.declared.message.ConnectionType.{ConnectionType}
use Rattle.http_types.specs.Flags.{no_flags}
use Rattle.http_types.specs.ResponseHead.{ResponseParts, IsLineByte}
use Rattle.http.specs.declared.version.Version.{Version}
use Rattle.model_h1.specs.Request.{Header, BodyKind, no_body, fixed_body, chunked_body, raw_body}
use Rattle.model_h1.specs.Request as model
use Rattle.model_h1.specs.LengthTable.{values_of, length_value, stated_length}
use Rattle.model_h1.specs.Answer.{BodySize}
use Rattle.model_h1.specs.AnswerText.{by_name}
use Rattle.model_client.specs.WrittenHead.{line_of}
use Rattle.model_h1.specs.Parse.{Body}
use Rattle.model_client.specs.AnswerParse.{Received}
use Rattle.model_client.specs.AnswerReading.{Answer, answer_is, IsAnswerReading, IsTextOf}
use Rattle.http_framing.specs.Kinds.{kind_of}
use Rattle.h1_encoder.specs.Meaning.{answer_of, headers_of, minor_of}
use Rattle.h1_decoder.specs.HeadItem.{connection_type_of}
use Rattle.h1_decoder.specs.declared.response.ResponseItem.{ResponseItem}
use Rattle.h1_decoder.specs.ResponseItem.{SaysAnswer}
use Rattle.model_ends.proofs.ValuesByName.{by_name_values}
use Rattle.model_proxy.specs.Edge.{via}
use Rattle.model_proxy.specs.HopNames.{connection_words, is_among}
use Rattle.model_proxy.specs.Answers.{Found, found_by, found_bad, found_body, says_close, reply_reason, reply_lines, reply_head, reply_size, head_size, open_size}
use Rattle.proxy_heads.specs.ForwardedMeaning.{is_line_end, kept_reason, found_as, use_by, use_of, is_close_type, stated_or, other_size, length_or, answer_lines}
use Rattle.proxy_heads.proofs.MapLemmas.{map_lines, map_values, absorbed}
use Rattle.proxy_heads.proofs.LeftOut.{answer_by_name, same_words}
use Rattle.proxy_heads.proofs.RequestLemmas.{via_of}

-- ---- how a head is used

pub used : (a : Answer) (r : Received) (body : Body) (later : Found) → 100 ≤ a.status
    → found_by r (answer_is a) body later ≡ found_as (use_of a.is_lax a.status) r a body later
used a r body later within = by_lax a.is_lax (eqb a.status 101) (nat_lt a.status 200)
  where
    large : nat_le 100 a.status ≡ true
    large = le-leb 100 a.status within

    by_lax : (lax other below : Bool)
        → (if lax || other then found_bad else (if (nat_le 100 a.status && below && not other) then later else found_body r a body))
        ≡ found_as (use_by lax other below) r a body later
    by_lax true other below = refl
    by_lax false true below = refl
    by_lax false false true = ap (λ (t : Bool). if (t && true && true) then later else found_body r a body) large
    by_lax false false false = ap (λ (t : Bool). if (t && false && true) then later else found_body r a body) large

-- ---- whether the connection closes

-- the type decides, or a word
pub closes_by : (a : Answer) (kind : model.ConnectionType) → a.connection ≡ kind
    → says_close a ≡ (is_close_type (connection_type_of kind) || is_among (codes "close") (connection_words a.headers))
closes_by a model.close e = ap (λ (k : model.ConnectionType). says_close (record a { connection = k })) e
closes_by a model.keep_alive e = ap (λ (k : model.ConnectionType). says_close (record a { connection = k })) e
closes_by a model.upgrade e = ap (λ (k : model.ConnectionType). says_close (record a { connection = k })) e

-- the words of a head's lines in a map
pub words_of_item : (item : ResponseItem) (a : Answer) → SaysAnswer item a → connection_words (headers_of item.head.headers) ≡ connection_words a.headers
words_of_item item a says = ap connection_words (ap headers_of says.headers ∙ map_lines a.headers) ∙ same_words a.headers

-- what the code looks at
pub says_is : (item : ResponseItem) (a : Answer) (kind : ConnectionType) (closes listed : Bool) → SaysAnswer item a
    → kind ≡ connection_type_of a.connection → closes ≡ is_close_type kind
    → listed ≡ is_among (codes "close") (connection_words (headers_of item.head.headers)) → says_close a ≡ (closes || listed)
says_is item a kind closes listed says kinds close list =
    closes_by a a.connection refl
    ∙ sym ((λ i. close i || list i)
    ∙ (λ i. is_close_type (kinds i) || is_among (codes "close") (words_of_item item a says i)))

-- ---- the reason

-- a byte of a value ends no line
ends_none : (b : ℕ) → is_value_byte b ≡ true → is_line_end b ≡ false
ends_none b is = by_tests (eqb b 13) refl (eqb b 10) refl
  where
    by_tests : (s : Bool) → eqb b 13 ≡ s → (t : Bool) → eqb b 10 ≡ t → is_line_end b ≡ false
    by_tests true e t f =
        let bad : is_value_byte 13 ≡ true = subst (λ (n : ℕ). is_value_byte n ≡ true) (eqb-true b 13 e) is in absurd (false≢true bad)
    by_tests false e true f =
        let bad : is_value_byte 10 ≡ true = subst (λ (n : ℕ). is_value_byte n ≡ true) (eqb-true b 10 f) is in absurd (false≢true bad)
    by_tests false e false f = λ i. e i || f i

text_on_one_line : (piece : List ℕ) (a : Answer) → IsTextOf piece a → list_any is_line_end a.reason ≡ false
text_on_one_line piece a text =
    let phrase = reason_phrase text.text.reason in
    ap (list_any is_line_end) text.reason_is
    ∙ list_any_none is_line_end phrase (λ k d within. ends_none (get_or phrase k d) (text.reads.0.reason k d within))

pub reason_on_one_line : (piece : List ℕ) (a : Answer) → IsAnswerReading piece (answer_is a) → list_any is_line_end a.reason ≡ false
reason_on_one_line piece a reading = elim reading.1 [
  | inl x ↦ text_on_one_line piece a x.1
  | inr x ↦ text_on_one_line _ a x.2
]

and_true : (t : Bool) → (t && true) ≡ t
and_true true = refl
and_true false = refl

-- so it is the reply's
pub reason_is : (item : ResponseItem) (a : Answer) (piece : List ℕ) → IsAnswerReading piece (answer_is a) → SaysAnswer item a
    → kept_reason item.reason ≡ reply_reason a.reason
reason_is item a piece reading says =
    ap kept_reason says.reason
    ∙ ap (λ (t : Bool). if is_utf8 a.reason && not t then a.reason else []) (reason_on_one_line piece a reading)
    ∙ ap (λ (t : Bool). if t then a.reason else []) (and_true (is_utf8 a.reason))

-- what is kept ends no line
kept_on_one_line : (reason : List ℕ) → list_any is_line_end (kept_reason reason) ≡ false
kept_on_one_line reason = by_tests (is_utf8 reason) (list_any is_line_end reason) refl
  where
    by_tests : (s t : Bool) → list_any is_line_end reason ≡ t → list_any is_line_end (if s && not t then reason else []) ≡ false
    by_tests true true e = refl
    by_tests true false e = e
    by_tests false t e = refl

line_byte_is : (b : ℕ) → IsLineByte b → is_line_end b ≡ true
line_byte_is b (inl e) = ap is_line_end e
line_byte_is b (inr e) = ap is_line_end e

pub no_line_byte : (reason text : List ℕ) → text ≡ kept_reason reason → Any IsLineByte text → ⊥
no_line_byte reason text is any =
    let found : Any (λ (b : ℕ). is_line_end b ≡ true) text = (any.0, any.1, any.2, any.3, line_byte_is any.1 any.4) in
    false≢true (sym (ap (list_any is_line_end) is ∙ kept_on_one_line reason) ∙ list_any-from_Any is_line_end text found)

-- text is kept, and nothing else
pub text_kept : (reason text : List ℕ) → list_any is_line_end reason ≡ false → text ≡ reason → IsUtf8 reason → text ≡ kept_reason reason
text_kept reason text one_line is utf8 =
    is ∙ sym ((λ i. if is_utf8-from_IsUtf8 reason utf8 i && not (one_line i) then reason else []))

pub no_text_kept : (reason : List ℕ) → (IsUtf8 reason → ⊥) → [] ≡ kept_reason reason
no_text_kept reason none = by_test (is_utf8 reason) refl
  where
    by_test : (t : Bool) → is_utf8 reason ≡ t → [] ≡ (if t && not (list_any is_line_end reason) then reason else [])
    by_test true is = absurd (none (IsUtf8-from_is_utf8 reason is))
    by_test false is = refl

pub ends_kept : (reason : List ℕ) → list_any is_line_end reason ≡ true → [] ≡ kept_reason reason
ends_kept reason ends = by_test (is_utf8 reason)
  where
    by_test : (t : Bool) → [] ≡ (if t && not (list_any is_line_end reason) then reason else [])
    by_test true = ap (λ (e : Bool). if not e then reason else []) (sym ends)
    by_test false = refl

-- ---- the head

pub reply_is : (item : ResponseItem) (a : Answer) (piece : List ℕ) (head : ResponseParts) → IsAnswerReading piece (answer_is a) → SaysAnswer item a
    → head.status ≡ item.head.status → head.reason ≡ Some (kept_reason item.reason) → head.flags ≡ no_flags
    → headers_of head.headers ≡ by_name (answer_lines item.head.status (headers_of item.head.headers) ++ line_of (codes "via") (via (minor_of item.head.version)) ∷ [])
    → answer_of head ≡ reply_head a
reply_is item a piece head reading says status reason flags lines =
    let statuses = status ∙ says.status in
    let reasons = reason ∙ ap Some (reason_is item a piece reading says) in
    let who : List Header = line_of (codes "via") (via (minor_of item.head.version)) ∷ [] in
    let all : headers_of head.headers ≡ reply_lines a.minor a.status a.headers =
    lines ∙ ap (λ (n : ℕ). by_name (answer_lines n (headers_of item.head.headers) ++ who)) says.status
    ∙ ap (λ (hs : List Header). by_name (answer_lines a.status hs ++ who)) (ap headers_of says.headers ∙ map_lines a.headers)
    ∙ ap (λ (hs : List Header). by_name (hs ++ who)) (answer_by_name a.status a.headers)
    ∙ absorbed (answer_lines a.status a.headers) who
    ∙ ap (λ (t : List ℕ). by_name (answer_lines a.status a.headers ++ line_of (codes "via") t ∷ []))
    (ap (λ (v : Version). via (minor_of v)) says.version ∙ via_of a.minor) in
    λ i. record {
      status = statuses i;
      reason = reasons i;
      closes = (flags i).close;
      keeps_alive = (flags i).keep_alive;
      upgrades = (flags i).upgrade;
      no_chunking = (flags i).no_chunking;
      in_camel_case = (flags i).in_camel_case;
      headers = all i;
    }

-- ---- the size

pub size_is : (is_head : Bool) (a : Answer) → reply_size is_head a ≡ stated_or a.body (other_size is_head a)
size_is is_head a = by_kind a.body refl
  where
    of_head : (o : Option ℕ) (status : ℕ) (kind : BodyKind) → head_size o status kind ≡ length_or o (open_size status kind)
    of_head (Some n) status kind = refl
    of_head None status kind = refl

    either : (b : Bool) (kind : BodyKind)
        → (if b then head_size (stated_length (values_of (codes "content-length") a.headers)) a.status kind else open_size a.status kind)
        ≡ (if b then length_or (stated_length (values_of (codes "content-length") a.headers)) (open_size a.status kind) else open_size a.status kind)
    either true kind = of_head (stated_length (values_of (codes "content-length") a.headers)) a.status kind
    either false kind = refl

    by_kind : (kind : BodyKind) → a.body ≡ kind → reply_size is_head a ≡ stated_or a.body (other_size is_head a)
    by_kind (fixed_body n) e =
        ap (λ (k : BodyKind). reply_size is_head (record a { body = k })) e ∙ ap (λ (k : BodyKind). stated_or k (other_size is_head a)) (sym e)
    by_kind no_body e =
        ap (λ (k : BodyKind). reply_size is_head (record a { body = k })) e ∙ either is_head no_body
        ∙ ap (λ (k : BodyKind). stated_or k (other_size is_head (record a { body = k }))) (sym e)
    by_kind chunked_body e =
        ap (λ (k : BodyKind). reply_size is_head (record a { body = k })) e ∙ either is_head chunked_body
        ∙ ap (λ (k : BodyKind). stated_or k (other_size is_head (record a { body = k }))) (sym e)
    by_kind raw_body e =
        ap (λ (k : BodyKind). reply_size is_head (record a { body = k })) e ∙ either is_head raw_body
        ∙ ap (λ (k : BodyKind). stated_or k (other_size is_head (record a { body = k }))) (sym e)

-- the lines of a head in a map have its values
pub values_of_item : (name : List ℕ) (item : ResponseItem) (a : Answer) → SaysAnswer item a → values_of name (headers_of item.head.headers) ≡ values_of name a.headers
values_of_item name item a says = ap (values_of name) (ap headers_of says.headers ∙ map_lines a.headers) ∙ by_name_values name a.headers

-- the size of a body without a length
pub head_sized : (item : ResponseItem) (a : Answer) (is_head : Bool) (o : Option ℕ) (other size : BodySize) → SaysAnswer item a → is_head ≡ true
    → o ≡ stated_length (values_of (codes "content-length") (headers_of item.head.headers)) → other ≡ open_size item.head.status (kind_of item.body)
    → size ≡ length_or o other → size ≡ other_size is_head a
head_sized item a is_head o other size says on stated opened is =
    let lengths = stated ∙ ap stated_length (values_of_item (codes "content-length") item a says) in
    is ∙ (λ i. length_or (lengths i) (opened i)) ∙ (λ i. length_or (stated_length (values_of (codes "content-length") a.headers)) (open_size (says.status i) (says.body i)))
    ∙ ap (λ (b : Bool). if b then length_or (stated_length (values_of (codes "content-length") a.headers)) (open_size a.status a.body) else open_size a.status a.body) (sym on)

pub open_sized : (item : ResponseItem) (a : Answer) (is_head : Bool) (other : BodySize) → SaysAnswer item a → is_head ≡ false
    → other ≡ open_size item.head.status (kind_of item.body) → other ≡ other_size is_head a
open_sized item a is_head other says off opened =
    opened ∙ (λ i. open_size (says.status i) (says.body i))
    ∙ ap (λ (b : Bool). if b then length_or (stated_length (values_of (codes "content-length") a.headers)) (open_size a.status a.body) else open_size a.status a.body) (sym off)

-- the length that the first value states
pub first_stated : (m : Entries) (value : FieldValue) → IsDistinct bytes_eq (keys m) → Some value ≡ slice_get (get_all m (codes "content-length")) 0
    → length_value (trim_ows value.bytes) ≡ stated_length (values_of (codes "content-length") (headers_of m))
first_stated m value distinct is =
    by_values (get_all m (codes "content-length")) is ∙ ap stated_length (sym (map_values (codes "content-length") m distinct))
  where
    by_values : (vs : List FieldValue) → Some value ≡ slice_get vs 0 → length_value (trim_ows value.bytes) ≡ stated_length (map (λ (v : FieldValue). v.bytes) vs)
    by_values [] e = absurd (cc e)
    by_values (v ∷ vs) e = let same : value ≡ v = cc in ap (λ (w : FieldValue). length_value (trim_ows w.bytes)) same

pub none_stated : (m : Entries) → IsDistinct bytes_eq (keys m) → None ≡ slice_get (get_all m (codes "content-length")) 0
    → None ≡ stated_length (values_of (codes "content-length") (headers_of m))
none_stated m distinct is =
    by_values (get_all m (codes "content-length")) is ∙ ap stated_length (sym (map_values (codes "content-length") m distinct))
  where
    by_values : (vs : List FieldValue) → None ≡ slice_get vs 0 → None ≡ stated_length (map (λ (v : FieldValue). v.bytes) vs)
    by_values [] e = refl
    by_values (v ∷ vs) e = absurd (cc e)
