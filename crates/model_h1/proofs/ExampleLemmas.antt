-- What worked examples of heads and of parses stand on: parts whose classes of bytes are tests that compute.
use Rattle.std.proofs.Common.{◌≡◌, ℕ, ◌+◌, ◌-◌, ◌≤◌, Bool, true, false, not, ◌&&◌, List, [], ◌∷◌, ◌++◌, length, map, slice_range, codes, Some, None, nat_lt, nat_le, ◌==◌, refl, sym, ap, ◌∙◌, subst, arith, inl, inr}
use Rattle.std.specs.List.{list_all, list_any, AllByRecursion}
use Rattle.std.proofs.lemmas.Grind.{common_steps}
use Rattle.std.proofs.lemmas.Bool.{agree_below, agree_below_at, and_parts, or_left, or_right, not-true, ltb-true, leb-true, eqb-false, false≢true}
use Rattle.std.proofs.lemmas.List.Folds.{list_any-append}
use Rattle.std.proofs.lemmas.List.Sums.{AllPass-from_list_all}
use Rattle.std.proofs.lemmas.List.Elements.{All-from_recursion}
use lib.Utf8.{encode}
use Rattle.httparse.specs.Grammar.{RequestHead, IsRequestHead, Field, IsField, IsToken, crlf, is_token, is_token_byte, is_uri_byte, is_value_byte, print_blank, print_version, print_end, print_section, print_request, field_value}
use Rattle.http_header.specs.FieldName.{IsFieldName, is_field_name}
use Rattle.http_header.specs.Token.{is_value_byte as is_field_byte}
use Rattle.http_header.proofs.TokenLemmas.{IsFieldName-from_test}
use Rattle.http_uri.specs.Grammar.{IsPathAndQuery}
use Rattle.http_uri.specs.ByteClasses.{is_path_byte}
use Rattle.model_h1.specs.HeadPiece.{EndsBlank, IsHeadPiece, HasNoHeadPiece}
use Rattle.model_h1.specs.LengthTable.{body_kind, connection_of, expects_continue}
use Rattle.model_h1.specs.Request.{Head, malformed, faulty}
use Rattle.model_h1.specs.RequestHead.{IsHeadOf, IsTarget, IsHeaderField, header_of, IsReading}
use Rattle.model_h1.proofs.BlankLemmas.{begins_no_cr, ends_blank, ends_blank_true, ends_blank_read, ends_blank_long}
use Rattle.model_h1.proofs.HeadPieceLemmas.{ends_behind}

-- ---- pieces

-- the bytes have no empty line in front, and the first place where they end with one is this
abbrev pub is_plain_piece : List ℕ → ℕ → Bool
is_plain_piece (b ∷ c ∷ text) end =
    not (b == 10) && (not (b == 13) && (nat_le end (length (b ∷ c ∷ text))
    && (ends_blank (slice_range (b ∷ c ∷ text) 0 end) && agree_below (ends_behind (b ∷ c ∷ text) 0) (λ _. false) end)))
is_plain_piece _ end = false

-- a number that isn't another, read off the test
other_read : (a b : ℕ) → not (a == b) ≡ true → a ≡ b → ⊥
other_read a b e = eqb-false a b (not-true (a == b) e)

-- such bytes have that piece
pub plain_piece : (bytes : List ℕ) (end : ℕ) → is_plain_piece bytes end ≡ true → IsHeadPiece bytes 0 end
plain_piece [] end e = absurd (false≢true e)
plain_piece (b ∷ []) end e = absurd (false≢true e)
plain_piece (b ∷ c ∷ text) end e =
    let bytes = b ∷ c ∷ text in
    let no_line_feed = and_parts _ _ e in
    let no_return = and_parts _ _ no_line_feed.1 in
    let within = and_parts _ _ no_return.1 in
    let blank = and_parts (ends_blank (slice_range bytes 0 end)) (agree_below (ends_behind bytes 0) (λ _. false) end) within.1 in
    record {
      ordered = omega arith;
      in_range = leb-true end (length bytes) within.0;
      blank = ([], refl);
      begins = begins_no_cr b c text (other_read b 10 no_line_feed.0) (other_read b 13 no_return.0);
      ends = ends_blank_read _ blank.0;
      first = λ place from before ends.
          let on : 0 + (place - 0) ≡ place = omega arith in
          let passes = ends_blank_true _ (subst (λ p. EndsBlank (slice_range bytes 0 p)) (sym on) ends) in
          false≢true (sym (agree_below_at (ends_behind bytes 0) (λ _. false) end (place - 0) blank.1 (omega arith)) ∙ passes);
    }

-- no byte has no length
length-slice_range_empty : (s e : ℕ) → length (slice_range {X = ℕ} [] s e) ≡ 0
length-slice_range_empty s e = grind (arith, common_steps)

-- behind all bytes stands no head
pub nothing_behind : HasNoHeadPiece []
nothing_behind = λ s e p. omega (arith, ends_blank_long _ p.ends, length-slice_range_empty s e)

-- ---- heads

-- the tree of a head for the target `/`, each line ended by CR LF
abbrev pub plain_tree : List ℕ → ℕ → List Field → RequestHead
plain_tree method minor fields =
    record { blank = []; method = method; target = codes "/"; minor = minor; line_end = crlf; fields = fields; last = crlf }

-- a field's name and value are of their classes, for the grammar and as a header's
abbrev pub is_plain_field : Field → Bool
is_plain_field f = is_token f.name && (list_all is_value_byte f.raw && (is_field_name f.name && list_all is_field_byte (field_value f)))

-- a token, read off its test
token_read : (word : List ℕ) → is_token word ≡ true → IsToken word
token_read word e =
    let both = and_parts (nat_lt 0 (length word)) (list_all is_token_byte word) e in
    (ltb-true 0 (length word) both.0, AllPass-from_list_all is_token_byte word both.1)

-- a field, for the grammar and as a header's
field_read : (f : Field) → is_plain_field f ≡ true → IsField f × IsHeaderField f
field_read f e =
    let name = and_parts (is_token f.name) (list_all is_value_byte f.raw && (is_field_name f.name && list_all is_field_byte (field_value f))) e in
    let raw = and_parts (list_all is_value_byte f.raw) (is_field_name f.name && list_all is_field_byte (field_value f)) name.1 in
    let header = and_parts (is_field_name f.name) (list_all is_field_byte (field_value f)) raw.1 in (
      record { name = token_read f.name name.0; raw = AllPass-from_list_all is_value_byte f.raw raw.0 },
      record { name = IsFieldName-from_test f.name header.0; value = AllPass-from_list_all is_field_byte (field_value f) header.1 },
    )

-- each field, for the grammar
pub grammar_fields : (fields : List Field) → list_all is_plain_field fields ≡ true → AllByRecursion IsField fields
grammar_fields [] e = tt
grammar_fields (f ∷ fields) e =
    let both = and_parts (is_plain_field f) (list_all is_plain_field fields) e in
    ((field_read f both.0).0, grammar_fields fields both.1)

-- each field, as a header's
pub header_fields : (fields : List Field) → list_all is_plain_field fields ≡ true → AllByRecursion IsHeaderField fields
header_fields [] e = tt
header_fields (f ∷ fields) e =
    let both = and_parts (is_plain_field f) (list_all is_plain_field fields) e in
    ((field_read f both.0).1, header_fields fields both.1)

-- `/` is UTF-8, and a path without a query
kept : IsPathAndQuery (codes "/")
unfolding encode
kept = record {
  start = inr (inr (inl refl));
  path = AllPass-from_list_all is_path_byte (codes "/") refl;
  query = tt;
  utf8 = (codes "/", (refl, refl));
  short = omega arith;
}

-- `/` is a target
target : IsTarget (codes "/")
target = (None, None, codes "/", (omega arith, ((inr refl, record { start = inr refl; short = omega arith; kept = kept }), refl)))

-- the parts of a head for `/` are of their classes
abbrev pub is_plain_head : List ℕ → ℕ → List Field → Bool
is_plain_head method minor fields = is_token method && (is_field_name method && (nat_le minor 1 && list_all is_plain_field fields))

-- what the test says
record PlainParts (method : List ℕ) (minor : ℕ) (fields : List Field) : Type 0 where
  pub grammar : IsToken method
  pub token : IsFieldName method
  pub version : minor ≤ 1
  pub each : list_all is_plain_field fields ≡ true

-- read off the test
parts_read : (method : List ℕ) (minor : ℕ) (fields : List Field) → is_plain_head method minor fields ≡ true → PlainParts method minor fields
parts_read method minor fields e =
    let grammar = and_parts (is_token method) (is_field_name method && (nat_le minor 1 && list_all is_plain_field fields)) e in
    let token = and_parts (is_field_name method) (nat_le minor 1 && list_all is_plain_field fields) grammar.1 in
    let version = and_parts (nat_le minor 1) (list_all is_plain_field fields) token.1 in
    record {
      grammar = token_read method grammar.0;
      token = IsFieldName-from_test method token.0;
      version = leb-true minor 1 version.0;
      each = version.1;
    }

-- the tree of such parts is a head's
plain_grammar : (method : List ℕ) (minor : ℕ) (fields : List Field) → PlainParts method minor fields → IsRequestHead (plain_tree method minor fields)
unfolding encode
plain_grammar method minor fields x = record {
  method = x.grammar;
  target = (omega arith, AllPass-from_list_all is_uri_byte (codes "/") refl);
  target_text = (codes "/", (refl, refl));
  minor = x.version;
  fields = All-from_recursion IsField fields (grammar_fields fields x.each);
}

-- what a head of such parts says beside them
pub record SaysHead (piece : List ℕ) (h : Head) (fields : List Field) : Type 0 where
  pub spelled : piece ≡ print_request (plain_tree h.method h.minor fields) ++ []
  pub target : h.target ≡ codes "/"
  pub headers : h.headers ≡ map header_of fields
  pub body : body_kind h.minor h.method h.headers ≡ Some h.body
  pub connection : h.connection ≡ connection_of h.minor h.headers
  pub expects : h.expects ≡ expects_continue h.headers

-- the text of such a head is that head's
pub plain_head : (piece : List ℕ) (h : Head) (fields : List Field) → is_plain_head h.method h.minor fields ≡ true → SaysHead piece h fields
    → IsHeadOf piece h
plain_head piece h fields e y =
    let x = parts_read h.method h.minor fields e in
    record {
      text = plain_tree h.method h.minor fields;
      reads = (plain_grammar h.method h.minor fields x, y.spelled);
      method_is = (x.token.0, refl);
      target_is = (target, y.target);
      minor_is = refl;
      fields = header_fields fields x.each;
      headers_are = y.headers;
      body_is = y.body;
      connection_is = y.connection;
      expects_is = y.expects;
    }

-- ---- a text without a space

-- the text has a space
abbrev has_space : List ℕ → Bool
has_space text = list_any (λ b. b == 32) text

-- what has a space has it behind other bytes
space_behind : (front text : List ℕ) → has_space (front ++ 32 ∷ text) ≡ true
space_behind [] text = refl
space_behind (b ∷ front) text = or_right _ _ (space_behind front text)

-- what begins with a text that has a space has it
space_in_front : (text more : List ℕ) → has_space text ≡ true → has_space (text ++ more) ≡ true
space_in_front text more has = list_any-append (λ b. b == 32) text more ∙ or_left (has_space text) (has_space more) has

-- the text of a head has a space
head_has_space : (h : RequestHead) → has_space (print_request h ++ []) ≡ true
unfolding print_request
head_has_space h =
    let words = print_blank h.blank ++ h.method ++ 32 ∷ h.target in
    let line = words ++ 32 ∷ print_version h.minor in
    let ended = line ++ print_end h.line_end in
    space_in_front (ended ++ print_section h.fields h.last) [] (space_in_front ended (print_section h.fields h.last)
    (space_in_front line (print_end h.line_end) (space_in_front words (32 ∷ print_version h.minor)
    (space_behind (print_blank h.blank ++ h.method) h.target))))

-- a method alone is no head
no_head : (h : Head) → IsHeadOf (codes "GET\r\n\r\n") h → ⊥
no_head h x = false≢true (ap has_space x.reads.1 ∙ head_has_space x.text)

-- a method alone is malformed
pub method_alone_refused : IsReading (codes "GET\r\n\r\n") (faulty malformed)
method_alone_refused = (omega arith, no_head)
