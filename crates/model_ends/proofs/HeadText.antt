-- The text of a head is the head on the stream: no empty line stands in it but its last.
use Rattle.std.proofs.Common.{◌≡◌, ℕ, ◌<◌, List, [], ◌∷◌, ◌++◌, length, take, drop, flat_map, get_or, slice_range, All, Some, None, Option, refl, sym, ap, ◌∙◌, subst, arith, append_assoc, length-append, length-drop}
use Rattle.std.specs.Prelude.{IsTrue}
use Rattle.std.specs.Char.{is_ascii_digit}
use Rattle.std.proofs.Math.Seq.{take-append_seam}
use Rattle.std.proofs.lemmas.List.{take-append-drop}
use Rattle.std.proofs.lemmas.Slice.{between_is}
use Rattle.httparse.specs.Ascii.{line_feed, space}
use Rattle.httparse.specs.Grammar.{is_uri_byte, is_value_byte, LineEnd, crlf, lf, print_end, print_blank, print_version, print_reason, Field, IsField, print_field, RequestHead, IsRequestHead, print_request, ResponseHead, IsResponseHead, print_response, reason_phrase}
use Rattle.model_h1.specs.HeadPiece.{BeginsBlank, EndsBlank, IsHeadPiece}
use Rattle.model_h1.proofs.LineFeeds.{feeds, feeds-append, feeds-none, feeds-token, feeds-version}
use Rattle.model_h1.proofs.HeadEnds.{EndsLate, late_text, late_section, ends_section, token_begins}

-- ---- a first line, field lines and an empty line

-- the text of a head without empty lines in front
abbrev pub text_of : List ℕ → LineEnd → List Field → LineEnd → List ℕ
text_of line end fields last = line ++ (print_end end ++ (flat_map print_field fields ++ print_end last))

module _ (line : List ℕ) (end : LineEnd) (fields : List Field) (last : LineEnd) (rest : List ℕ)
    (none : feeds line ≡ 0) (valid : All IsField fields) (begins : ¬ (BeginsBlank (text_of line end fields last ++ rest))) where
  whole : List ℕ
  whole = text_of line end fields last

  lines : List ℕ
  lines = flat_map print_field fields

  grouped : text_of line end fields last ++ rest ≡ line ++ (print_end end ++ (flat_map print_field fields ++ (print_end last ++ rest)))
  grouped =
      append_assoc line (print_end end ++ (flat_map print_field fields ++ print_end last)) rest
      ∙ ap (λ (t : List ℕ). line ++ t) (append_assoc (print_end end) (flat_map print_field fields ++ print_end last) rest
      ∙ ap (λ (t : List ℕ). print_end end ++ t) (append_assoc (flat_map print_field fields) (print_end last) rest))

  -- an empty line after a line feed ends no earlier than the head
  late : EndsLate (text_of line end fields last ++ rest) (length rest)
  late =
      subst (λ (t : List ℕ). EndsLate t (length rest)) (sym grouped)
      (late_text line _ (length rest) none (late_section end fields last rest valid))

  -- no part in front of it ends with an empty line
  none_shorter : (e : ℕ) → e < length (text_of line end fields last) → ¬ (EndsBlank (take e (text_of line end fields last ++ rest)))
  none_shorter e less (before, at, is) =
      let bytes = text_of line end fields last ++ rest in
      let size = length-append (text_of line end fields last) rest in
      let split : bytes ≡ before ++ (line_feed ∷ print_end at ++ drop e bytes) =
      sym (take-append-drop e bytes) ∙ ap (λ xs. xs ++ drop e bytes) is ∙ append_assoc before (line_feed ∷ print_end at) (drop e bytes) in
      absurd (omega (arith, less, size, length-drop e bytes, late before at (drop e bytes) split))

  -- it is the head piece
  pub text_is_piece : IsHeadPiece (text_of line end fields last ++ rest) 0 (length (text_of line end fields last))
  text_is_piece =
      let text = text_of line end fields last in
      let front : slice_range (text ++ rest) 0 (length text) ≡ text = between_is (text ++ rest) 0 (length text) ∙ take-append_seam text rest in
      record {
        ordered = omega arith;
        in_range = omega (arith, length-append text rest);
        blank = ([], refl);
        begins = begins;
        ends = subst EndsBlank (sym front) (ends_section line end fields last);
        first = λ e low less ends. none_shorter e less (subst EndsBlank (between_is (text ++ rest) 0 e) ends);
      }

-- ---- answers

-- a status line without its line end
abbrev status_line : ResponseHead → List ℕ
status_line h = print_version h.minor ++ space ∷ h.digits ++ print_reason h.reason

-- a head without empty lines in front, line by line
response_lines : (h : ResponseHead) → h.blank ≡ [] → print_response h ≡ text_of (status_line h) h.line_end h.fields h.last
unfolding print_response
response_lines h none =
    let section = flat_map print_field h.fields ++ print_end h.last in
    ap (λ (blank : List LineEnd). print_blank blank ++ print_version h.minor ++ space ∷ h.digits ++ print_reason h.reason ++ print_end h.line_end ++ section) none
    ∙ append_assoc (status_line h) (print_end h.line_end) section

-- a reason has no line feed
feeds-reason : (r : Option (List ℕ)) → All (λ b. IsTrue (is_value_byte b)) (reason_phrase r) → feeds (print_reason r) ≡ 0
feeds-reason None pass = refl
feeds-reason (Some phrase) pass = feeds-none is_value_byte refl phrase pass

feeds-status : (h : ResponseHead) → IsResponseHead h → feeds (status_line h) ≡ 0
feeds-status h is =
    omega (
      arith,
      feeds-append (print_version h.minor ++ space ∷ h.digits) (print_reason h.reason),
      feeds-append (print_version h.minor) (space ∷ h.digits),
      feeds-none is_ascii_digit refl h.digits is.digits.1,
      feeds-version h.minor is.minor,
      feeds-reason h.reason is.reason,
    )

-- it begins with an H
version_begins : (minor : ℕ) (rest : List ℕ) → ¬ (BeginsBlank (print_version minor ++ rest))
version_begins minor rest (crlf, text, is) = let no : 72 ≡ 13 = ap (λ xs. get_or xs 0 0) is in absurd (omega (arith, no))
version_begins minor rest (lf, text, is) = let no : 72 ≡ 10 = ap (λ xs. get_or xs 0 0) is in absurd (omega (arith, no))

pub response_is_piece : (h : ResponseHead) (rest : List ℕ) → IsResponseHead h → h.blank ≡ []
    → IsHeadPiece (print_response h ++ rest) 0 (length (print_response h))
response_is_piece h rest is none =
    let section = print_end h.line_end ++ (flat_map print_field h.fields ++ print_end h.last) in
    subst (λ (t : List ℕ). IsHeadPiece (t ++ rest) 0 (length t)) (sym (response_lines h none))
    (text_is_piece (status_line h) h.line_end h.fields h.last rest (feeds-status h is) is.fields
    (version_begins h.minor (space ∷ h.digits ++ print_reason h.reason ++ section ++ rest)))

-- ---- requests

-- a request line without its line end
abbrev request_line : RequestHead → List ℕ
request_line h = h.method ++ space ∷ h.target ++ space ∷ print_version h.minor

request_lines : (h : RequestHead) → h.blank ≡ [] → print_request h ≡ text_of (request_line h) h.line_end h.fields h.last
unfolding print_request
request_lines h none =
    let section = flat_map print_field h.fields ++ print_end h.last in
    ap (λ (blank : List LineEnd). print_blank blank ++ h.method ++ space ∷ h.target ++ space ∷ print_version h.minor ++ print_end h.line_end ++ section) none
    ∙ append_assoc (request_line h) (print_end h.line_end) section

feeds-line : (h : RequestHead) → IsRequestHead h → feeds (request_line h) ≡ 0
feeds-line h is =
    omega (
      arith,
      feeds-append (h.method ++ space ∷ h.target) (space ∷ print_version h.minor),
      feeds-append h.method (space ∷ h.target),
      feeds-token h.method is.method.1,
      feeds-none is_uri_byte refl h.target is.target.1,
      feeds-version h.minor is.minor,
    )

pub request_is_piece : (h : RequestHead) (rest : List ℕ) → IsRequestHead h → h.blank ≡ []
    → IsHeadPiece (print_request h ++ rest) 0 (length (print_request h))
request_is_piece h rest is none =
    let section = print_end h.line_end ++ (flat_map print_field h.fields ++ print_end h.last) in
    subst (λ (t : List ℕ). IsHeadPiece (t ++ rest) 0 (length t)) (sym (request_lines h none))
    (text_is_piece (request_line h) h.line_end h.fields h.last rest (feeds-line h is) is.fields
    (subst (λ (t : List ℕ). ¬ (BeginsBlank t))
    (sym (append_assoc (request_line h) section rest ∙ append_assoc (h.method ++ space ∷ h.target) (space ∷ print_version h.minor) (section ++ rest)
    ∙ append_assoc h.method (space ∷ h.target) (space ∷ print_version h.minor ++ (section ++ rest))))
    (token_begins h.method (space ∷ h.target ++ (space ∷ print_version h.minor ++ (section ++ rest))) is.method)))
