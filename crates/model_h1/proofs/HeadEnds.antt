-- Where the text of a head can end with an empty line: nowhere but at its end.
use Rattle.std.proofs.Common.{◌≡◌, ℕ, ◌<◌, ◌≤◌, Bool, List, [], ◌∷◌, ◌++◌, length, take, drop, filter, flat_map, get_or, cond, true, false, All, refl, sym, ap, ◌∙◌, subst, arith, append_assoc, length-append}
use Rattle.std.specs.Prelude.{IsTrue}
use Rattle.std.proofs.lemmas.Bool.{eq-eqb, false≢true}
use Rattle.std.proofs.lemmas.List.Elements.{All-head, All-tail}
use Rattle.httparse.specs.Ascii.{line_feed, carriage_return, colon}
use Rattle.httparse.specs.Grammar.{is_token_byte, is_value_byte, IsToken, LineEnd, crlf, lf, print_end, Field, IsField, print_field}
use Rattle.model_h1.specs.HeadPiece.{BeginsBlank, EndsBlank}
use Rattle.model_h1.proofs.LineFeeds.{is_feed, feeds, feeds-append, feeds-none, feeds-token}

-- after each empty line that follows a line feed there are at most n bytes of the text
abbrev pub EndsLate : List ℕ → ℕ → Type 0
EndsLate text n =
    (before : List ℕ) (end : LineEnd) (after : List ℕ) → text ≡ before ++ (line_feed ∷ print_end end ++ after) → length after ≤ n

-- so it is with one more byte in front that is no line feed
late_byte : (b : ℕ) (text : List ℕ) (n : ℕ) → is_feed b ≡ false → EndsLate text n → EndsLate (b ∷ text) n
late_byte b text n other late [] end after is =
    let here : b ≡ line_feed = ap (λ xs. get_or xs 0 0) is in
    absurd (false≢true (sym other ∙ eq-eqb b line_feed here))
late_byte b text n other late (x ∷ before) end after is = late before end after (ap (drop 1) is)

-- a text without line feeds has none at its front, and none after that
feedless : (b : ℕ) (text : List ℕ) → feeds (b ∷ text) ≡ 0 → (is_feed b ≡ false) × (feeds text ≡ 0)
feedless b text none = by_byte (is_feed b) refl none
  where
    by_byte : (t : Bool) → is_feed b ≡ t → length (cond t (b ∷ filter is_feed text) (filter is_feed text)) ≡ 0
        → (is_feed b ≡ false) × (feeds text ≡ 0)
    by_byte true is none = absurd (omega (arith, none))
    by_byte false is none = (is, none)

-- with a text without line feeds in front
pub late_text : (front text : List ℕ) (n : ℕ) → feeds front ≡ 0 → EndsLate text n → EndsLate (front ++ text) n
late_text [] text n none late = late
late_text (b ∷ front) text n none late =
    let parts = feedless b front none in
    late_byte b (front ++ text) n parts.0 (late_text front text n parts.1 late)

-- with a line feed in front, where no empty line follows it
late_feed : (text : List ℕ) (n : ℕ) → ¬ (BeginsBlank text) → EndsLate text n → EndsLate (line_feed ∷ text) n
late_feed text n begins late [] end after is = absurd (begins (end, after, ap (drop 1) is))
late_feed text n begins late (x ∷ before) end after is = late before end after (ap (drop 1) is)

-- with a line end in front
late_end : (end : LineEnd) (text : List ℕ) (n : ℕ) → ¬ (BeginsBlank text) → EndsLate text n → EndsLate (print_end end ++ text) n
late_end crlf text n begins late = late_byte carriage_return (line_feed ∷ text) n refl (late_feed text n begins late)
late_end lf text n begins late = late_feed text n begins late

-- a line end has one or two bytes
end_bytes : (end : LineEnd) → (1 ≤ length (print_end end)) × (length (print_end end) ≤ 2)
end_bytes crlf = (omega arith, omega arith)
end_bytes lf = (omega arith, omega arith)

-- what follows the line end at the front of a text is as long, however it is read
rest_alike : (a b : LineEnd) (rest after : List ℕ) → print_end a ++ rest ≡ print_end b ++ after → length after ≤ length rest
rest_alike crlf crlf rest after is = omega (arith, ap length is)
rest_alike lf lf rest after is = omega (arith, ap length is)
rest_alike crlf lf rest after is = let no : 13 ≡ 10 = ap (λ xs. get_or xs 0 0) is in absurd (omega (arith, no))
rest_alike lf crlf rest after is = let no : 10 ≡ 13 = ap (λ xs. get_or xs 0 0) is in absurd (omega (arith, no))

-- after the last line end stands what follows the empty line
late_last_feed : (last : LineEnd) (rest : List ℕ) → EndsLate (line_feed ∷ print_end last ++ rest) (length rest)
late_last_feed last rest [] end after is = rest_alike last end rest after (ap (drop 1) is)
late_last_feed last rest (x ∷ before) end after is =
    omega (
      arith,
      ap length is,
      length-append (print_end last) rest,
      length-append before (line_feed ∷ print_end end ++ after),
      length-append (print_end end) after,
      (end_bytes last).1,
      (end_bytes end).0,
    )

-- the same with the line end before
late_last : (end last : LineEnd) (rest : List ℕ) → EndsLate (print_end end ++ (print_end last ++ rest)) (length rest)
late_last crlf last rest = late_byte carriage_return (line_feed ∷ print_end last ++ rest) (length rest) refl (late_last_feed last rest)
late_last lf last rest = late_last_feed last rest

-- a token begins with no empty line
pub token_begins : (name rest : List ℕ) → IsToken name → ¬ (BeginsBlank (name ++ rest))
unfolding is_token_byte
token_begins [] rest token blank = absurd (omega (arith, token.0))
token_begins (b ∷ name) rest token (crlf, text, is) =
    let here : b ≡ 13 = ap (λ xs. get_or xs 0 0) is in
    absurd (false≢true (subst (λ x. IsTrue (is_token_byte x)) here (All-head (λ x. IsTrue (is_token_byte x)) b name token.1)))
token_begins (b ∷ name) rest token (lf, text, is) =
    let here : b ≡ 10 = ap (λ xs. get_or xs 0 0) is in
    absurd (false≢true (subst (λ x. IsTrue (is_token_byte x)) here (All-head (λ x. IsTrue (is_token_byte x)) b name token.1)))

-- a field line without its line end
abbrev line_of : Field → List ℕ
line_of f = f.name ++ colon ∷ f.raw

-- and the lines after it
line_then : (f : Field) (fields later : List ℕ) → line_of f ++ (print_end f.end ++ (fields ++ later)) ≡ print_field f ++ fields ++ later
line_then f fields later = sym (append_assoc (print_field f) fields later ∙ append_assoc (line_of f) (print_end f.end) (fields ++ later))

-- after a line end and the lines that follow it
pub late_section : (end : LineEnd) (fields : List Field) (last : LineEnd) (rest : List ℕ) → All IsField fields
    → EndsLate (print_end end ++ (flat_map print_field fields ++ (print_end last ++ rest))) (length rest)
late_section end [] last rest valid = late_last end last rest
late_section end (f ∷ fields) last rest valid =
    let is = All-head IsField f fields valid in
    let lines = flat_map print_field fields in
    let later = print_end f.end ++ (lines ++ (print_end last ++ rest)) in
    let none : feeds (line_of f) ≡ 0 =
    omega (arith, feeds-append f.name (colon ∷ f.raw), feeds-token f.name is.name.1, feeds-none is_value_byte refl f.raw is.raw) in
    let begins = subst (λ (t : List ℕ). ¬ (BeginsBlank t)) (sym (append_assoc f.name (colon ∷ f.raw) later)) (token_begins f.name (colon ∷ f.raw ++ later) is.name) in
    subst (λ (t : List ℕ). EndsLate (print_end end ++ t) (length rest)) (line_then f lines (print_end last ++ rest))
    (late_end end (line_of f ++ later) (length rest) begins
    (late_text (line_of f) later (length rest) none (late_section f.end fields last rest (All-tail IsField f fields valid))))

-- a line end and the lines that follow it end with an empty line
pub ends_section : (front : List ℕ) (end : LineEnd) (fields : List Field) (last : LineEnd)
    → EndsBlank (front ++ (print_end end ++ (flat_map print_field fields ++ print_end last)))
ends_section front crlf [] last = (front ++ carriage_return ∷ [], last, sym (append_assoc front (carriage_return ∷ []) (line_feed ∷ print_end last)))
ends_section front lf [] last = (front, last, refl)
ends_section front end (f ∷ fields) last =
    let lines = flat_map print_field fields in
    subst EndsBlank
    (append_assoc front (print_end end ++ line_of f) (print_end f.end ++ (lines ++ print_end last))
    ∙ ap (λ (t : List ℕ). front ++ t) (append_assoc (print_end end) (line_of f) (print_end f.end ++ (lines ++ print_end last))
    ∙ ap (λ (t : List ℕ). print_end end ++ t) (line_then f lines (print_end last))))
    (ends_section (front ++ (print_end end ++ line_of f)) f.end fields last)
