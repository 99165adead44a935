-- How many line feeds a head has.
use Rattle.std.proofs.Common.{◌≡◌, ℕ, ◌+◌, ◌≤◌, Bool, List, [], ◌∷◌, ◌++◌, length, filter, flat_map, true, false, All, refl, ap, ◌∙◌, subst, arith, append-nil, append_assoc, length-append}
use Rattle.std.proofs.lemmas.List.Elements.{All-head, All-tail, filter-append}
use Rattle.std.proofs.lemmas.List.Sums.{length-filter}
use Rattle.std.proofs.lemmas.Bool.{eqb-true}
use Rattle.std.specs.Prelude.{count_by, zero, suc, ◌==◌, IsTrue, Option, Some, None}
use Rattle.std.specs.Char.{is_ascii_digit}
use Rattle.httparse.specs.Ascii.{line_feed, space, colon}
use Rattle.httparse.proofs.GrammarLemmas.{print_request-append}
use Rattle.model_h1.specs.HeadPiece.{BeginsBlank, header_lines}
use Rattle.httparse.specs.Grammar.{AllPass, is_token_byte, is_uri_byte, is_value_byte, LineEnd, crlf, lf, print_end, print_blank, print_version, Field, IsField, print_field, print_section, RequestHead, IsRequestHead, print_request, ReadsRequest, ResponseHead, IsResponseHead, print_response, ReadsResponse, print_reason, reason_phrase}

-- the test for a line feed
abbrev pub is_feed : ℕ → Bool
is_feed b = b == line_feed

-- the line feeds of a text
abbrev pub feeds : List ℕ → ℕ
feeds text = length (filter is_feed text)

-- those of two texts are theirs together
pub feeds-append : (a b : List ℕ) → feeds (a ++ b) ≡ feeds a + feeds b
feeds-append a b = ap length (filter-append is_feed a b) ∙ length-append (filter is_feed a) (filter is_feed b)

-- each line end has one
pub feeds-print_end : (end : LineEnd) → feeds (print_end end) ≡ 1
feeds-print_end crlf = refl
feeds-print_end lf = refl

-- bytes of a kind that a line feed is not of have no line feed
pub feeds-none : (test : ℕ → Bool) → test line_feed ≡ false → (text : List ℕ) → AllPass test text → feeds text ≡ 0
feeds-none test fails [] pass = refl
feeds-none test fails (b ∷ text) pass =
    by_byte (is_feed b) refl (feeds-none test fails text (All-tail (λ x. IsTrue (test x)) b text pass))
  where
    here : IsTrue (test b)
    here = All-head (λ x. IsTrue (test x)) b text pass

    by_byte : (t : Bool) → is_feed b ≡ t → feeds text ≡ 0 → feeds (b ∷ text) ≡ 0
    by_byte true is none = absurd (cc (fails, subst (λ x. IsTrue (test x)) (eqb-true _ _ is) here))
    by_byte false is none = rw is none

-- a token has none
pub feeds-token : (text : List ℕ) → AllPass is_token_byte text → feeds text ≡ 0
unfolding is_token_byte
feeds-token text pass = feeds-none is_token_byte refl text pass

-- nor has a version
pub feeds-version : (minor : ℕ) → minor ≤ 1 → feeds (print_version minor) ≡ 0
feeds-version zero low = refl
feeds-version (suc zero) low = refl
feeds-version (suc (suc n)) low = absurd (omega (arith, low))

-- a field line has the one that ends it
feeds-field : (f : Field) → IsField f → feeds (print_field f) ≡ 1
feeds-field f is =
    omega (
      arith,
      feeds-append (f.name ++ colon ∷ f.raw) (print_end f.end),
      feeds-append f.name (colon ∷ f.raw),
      feeds-token f.name is.name.1,
      feeds-none is_value_byte refl f.raw is.raw,
      feeds-print_end f.end,
    )

-- and field lines have as many as they are
pub feeds-fields : (fields : List Field) → All IsField fields → feeds (flat_map print_field fields) ≡ length fields
feeds-fields [] all = refl
feeds-fields (f ∷ fields) all =
    omega (
      arith,
      feeds-append (print_field f) (flat_map print_field fields),
      feeds-field f (All-head IsField f fields all),
      feeds-fields fields (All-tail IsField f fields all),
    )

-- where a text does not begin with an empty line, it begins with no empty lines
pub no_blank : (blank : List LineEnd) (rest : List ℕ) → ¬ (BeginsBlank (print_blank blank ++ rest)) → blank ≡ []
no_blank [] rest begins = refl
no_blank (end ∷ blank) rest begins = absurd (begins (end, print_blank blank ++ rest, append_assoc (print_end end) (print_blank blank) rest))

-- a head has two line feeds more than fields, and those of the empty lines in front of it
pub feeds-head : (h : RequestHead) → IsRequestHead h → count_by (λ b. b == line_feed) (print_request h) ≡ feeds (print_blank h.blank) + (length h.fields + 2)
unfolding print_request
feeds-head h is =
    let section = print_section h.fields h.last in
    let front = print_blank h.blank ++ h.method ++ space ∷ h.target in
    let line = front ++ space ∷ print_version h.minor in
    omega (
      arith,
      length-filter is_feed (line ++ print_end h.line_end ++ section),
      feeds-append (line ++ print_end h.line_end) section,
      feeds-append line (print_end h.line_end),
      feeds-append front (space ∷ print_version h.minor),
      feeds-append (print_blank h.blank ++ h.method) (space ∷ h.target),
      feeds-append (print_blank h.blank) h.method,
      feeds-token h.method is.method.1,
      feeds-none is_uri_byte refl h.target is.target.1,
      feeds-version h.minor is.minor,
      feeds-print_end h.line_end,
      feeds-append (flat_map print_field h.fields) (print_end h.last),
      feeds-print_end h.last,
      feeds-fields h.fields is.fields,
    )

module _ (piece : List ℕ) (h : RequestHead) (reads : ReadsRequest piece h []) where
  -- the same of a piece that is a head
  feeds-piece : count_by (λ b. b == line_feed) piece ≡ feeds (print_blank h.blank) + (length h.fields + 2)
  feeds-piece = ap (count_by (λ b. b == line_feed)) (reads.1 ∙ append-nil (print_request h)) ∙ feeds-head h reads.0

  -- a piece that is a head has no more fields than header lines
  pub few_fields : length h.fields ≤ header_lines piece
  few_fields = omega (arith, feeds-piece)

  -- and as many, where it does not begin with an empty line
  pub header_lines-fields : ¬ (BeginsBlank piece) → header_lines piece ≡ length h.fields
  header_lines-fields begins =
      let none : h.blank ≡ [] = no_blank h.blank _ (subst (λ (text : List ℕ). ¬ (BeginsBlank text)) (reads.1 ∙ print_request-append h []) begins) in
      omega (arith, feeds-piece, ap (λ (blank : List LineEnd). feeds (print_blank blank)) none)

-- a reason has none
pub feeds-reason : (r : Option (List ℕ)) → All (λ b. IsTrue (is_value_byte b)) (reason_phrase r) → feeds (print_reason r) ≡ 0
feeds-reason None pass = refl
feeds-reason (Some phrase) pass = feeds-none is_value_byte refl phrase pass

-- the head of an answer has two line feeds more than fields, and those of the empty lines in front of it
pub feeds-response : (h : ResponseHead) → IsResponseHead h → count_by (λ b. b == line_feed) (print_response h) ≡ feeds (print_blank h.blank) + (length h.fields + 2)
unfolding print_response
feeds-response h is =
    let section = print_section h.fields h.last in
    let front = print_blank h.blank ++ print_version h.minor ++ space ∷ h.digits in
    let line = front ++ print_reason h.reason in
    omega (
      arith,
      length-filter is_feed (line ++ print_end h.line_end ++ section),
      feeds-append (line ++ print_end h.line_end) section,
      feeds-append line (print_end h.line_end),
      feeds-append front (print_reason h.reason),
      feeds-append (print_blank h.blank ++ print_version h.minor) (space ∷ h.digits),
      feeds-append (print_blank h.blank) (print_version h.minor),
      feeds-version h.minor is.minor,
      feeds-none is_ascii_digit refl h.digits is.digits.1,
      feeds-reason h.reason is.reason,
      feeds-print_end h.line_end,
      feeds-append (flat_map print_field h.fields) (print_end h.last),
      feeds-print_end h.last,
      feeds-fields h.fields is.fields,
    )

-- a piece that is the head of an answer has no more fields than header lines
pub few_answer_fields : (piece : List ℕ) (h : ResponseHead) → ReadsResponse piece h [] → length h.fields ≤ header_lines piece
few_answer_fields piece h reads =
    omega (arith, ap (count_by (λ b. b == line_feed)) (reads.1 ∙ append-nil (print_response h)) ∙ feeds-response h reads.0)
