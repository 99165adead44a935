-- What worked examples of answers stand on: parts whose classes of bytes are tests that compute.
use Rattle.std.proofs.Common.{◌≡◌, ℕ, ◌≤◌, Bool, true, false, ◌&&◌, List, [], ◌∷◌, ◌++◌, length, map, Some, Option, nat_le, ◌==◌, refl, sym, ap, ◌∙◌, arith}
use Rattle.std.specs.List.{list_all, AllByRecursion}
use Rattle.std.specs.Char.{is_ascii_digit}
use Rattle.std.proofs.lemmas.Bool.{and_parts, leb-true, eqb-true, false≢true}
use Rattle.std.proofs.lemmas.List.Sums.{AllPass-from_list_all}
use Rattle.std.proofs.lemmas.List.Elements.{All-from_recursion, All-head, All-tail}
use Rattle.std.specs.Prelude.{IsTrue}
use Rattle.httparse.specs.Grammar.{ResponseHead, IsResponseHead, Field, IsField, AllPass, crlf, is_token_byte, is_value_byte, print_response, reason_phrase, status_code}
use Rattle.model_h1.specs.RequestHead.{IsHeaderField, header_of}
use Rattle.model_h1.proofs.ExampleLemmas.{is_plain_field, grammar_fields, header_fields}
use Rattle.model_client.specs.AnswerTable.{answer_kind, answer_connection}
use Rattle.model_client.specs.AnswerReading.{Answer, IsTextOf}

-- ---- heads

-- the tree of a head, each line ended by CR LF
abbrev pub plain_tree : ℕ → List ℕ → Option (List ℕ) → List Field → ResponseHead
plain_tree minor digits reason fields =
    record { blank = []; minor = minor; digits = digits; reason = reason; line_end = crlf; fields = fields; last = crlf }

-- its parts are of their classes
abbrev pub is_plain_text : ResponseHead → Bool
is_plain_text h =
    nat_le h.minor 1 && ((length h.digits == 3) && (list_all is_ascii_digit h.digits && (list_all is_value_byte (reason_phrase h.reason)
    && list_all is_plain_field h.fields)))

-- such a text is one of the grammar, and its fields are headers
pub plain_grammar : (h : ResponseHead) → is_plain_text h ≡ true → IsResponseHead h × AllByRecursion IsHeaderField h.fields
plain_grammar h e =
    let minor = and_parts (nat_le h.minor 1) _ e in
    let size = and_parts (length h.digits == 3) _ minor.1 in
    let digits = and_parts (list_all is_ascii_digit h.digits) _ size.1 in
    let reason = and_parts (list_all is_value_byte (reason_phrase h.reason)) _ digits.1 in (
      record {
        minor = leb-true h.minor 1 minor.0;
        digits = (eqb-true (length h.digits) 3 size.0, AllPass-from_list_all is_ascii_digit h.digits digits.0);
        reason = AllPass-from_list_all is_value_byte (reason_phrase h.reason) reason.0;
        fields = All-from_recursion IsField h.fields (grammar_fields h.fields reason.1);
      },
      header_fields h.fields reason.1,
    )

-- what the answer of such a text says
pub record SaysAnswer (piece : List ℕ) (a : Answer) (h : ResponseHead) : Type 0 where
  pub spelled : piece ≡ print_response h ++ []
  pub minor : a.minor ≡ h.minor
  pub status : a.status ≡ status_code h
  pub reason : a.reason ≡ reason_phrase h.reason
  pub headers : a.headers ≡ map header_of h.fields
  pub body : answer_kind a.minor a.status a.headers ≡ Some a.body
  pub connection : a.connection ≡ answer_connection a.minor a.status a.headers a.body

-- the text is that answer's
pub plain_text : (piece : List ℕ) (a : Answer) (h : ResponseHead) → is_plain_text h ≡ true → 100 ≤ status_code h → SaysAnswer piece a h → IsTextOf piece a
plain_text piece a h e high y =
    let x = plain_grammar h e in
    record {
      text = h;
      reads = (x.0, y.spelled);
      minor_is = y.minor;
      status_is = (high, y.status);
      reason_is = y.reason;
      fields = x.1;
      headers_are = y.headers;
      body_is = y.body;
      connection_is = y.connection;
    }

-- ---- a text that the grammar refuses

-- the first byte of a text, and the others
first_byte : (a b : ℕ) (x y : List ℕ) → a ∷ x ≡ b ∷ y → a ≡ b
first_byte a b x y e = cc

other_bytes : (a b : ℕ) (x y : List ℕ) → a ∷ x ≡ b ∷ y → x ≡ y
other_bytes a b x y e = cc

-- a byte isn't one that passes the test and one that fails it
both_tests : (test : ℕ → Bool) (a b : ℕ) → test a ≡ false → test b ≡ true → b ≡ a → ⊥
both_tests test a b fails passes same = false≢true (sym fails ∙ ap test (sym same) ∙ passes)

-- a word of bytes that pass a test doesn't end at a colon where a blank stands, if both fail it
no_word : (test : ℕ → Bool) (blank colon : ℕ) → test blank ≡ false → test colon ≡ false → ¬ (colon ≡ blank) → (front word rest more : List ℕ)
    → list_all test front ≡ true → AllPass test word → word ++ colon ∷ rest ≡ front ++ blank ∷ more → ⊥
no_word test blank colon no_blank no_colon differ [] [] rest more passes all e = differ (first_byte colon blank rest more e)
no_word test blank colon no_blank no_colon differ [] (b ∷ word) rest more passes all e =
    both_tests test blank b no_blank (All-head (λ x. IsTrue (test x)) b word all) (first_byte b blank (word ++ colon ∷ rest) more e)
no_word test blank colon no_blank no_colon differ (f ∷ front) [] rest more passes all e =
    both_tests test colon f no_colon (and_parts (test f) (list_all test front) passes).0 (sym (first_byte colon f rest (front ++ blank ∷ more) e))
no_word test blank colon no_blank no_colon differ (f ∷ front) (b ∷ word) rest more passes all e =
    no_word test blank colon no_blank no_colon differ front word rest more (and_parts (test f) (list_all test front) passes).1
    (All-tail (λ x. IsTrue (test x)) b word all) (other_bytes b f (word ++ colon ∷ rest) (front ++ blank ∷ more) e)

-- so no name does
pub no_name : (front name rest more : List ℕ) → list_all is_token_byte front ≡ true → AllPass is_token_byte name → name ++ 58 ∷ rest ≡ front ++ 32 ∷ more → ⊥
unfolding is_token_byte
no_name front name rest more tokens all e = no_word is_token_byte 32 58 refl refl (λ same. omega arith) front name rest more tokens all e
