-- Empty lines in front of a text and at its end.
use Rattle.std.proofs.Common.{◌≡◌, ℕ, ◌≤◌, Bool, true, false, ◌&&◌, ◌||◌, List, [], ◌∷◌, ◌++◌, length, refl, sym, ap, ◌∙◌, inl, inr, arith, length-append, append_assoc, eqb}
use Rattle.std.proofs.lemmas.Bool.{cases_eq, or_cases, or_right, and_parts, eqb-true}
use Rattle.httparse.specs.Grammar.{LineEnd, crlf, lf, print_end, print_blank}
use Rattle.httparse.proofs.PieceLemmas.{print_end_unique}
use Rattle.model_h1.specs.HeadPiece.{BeginsBlank, EndsBlank}

-- ---- in front

-- empty lines, and then a text that begins with none
pub record BlankFront (text : List ℕ) : Type 0 where
  pub ends : List LineEnd
  pub rest : List ℕ
  pub text_is : text ≡ print_blank ends ++ rest
  pub begins : ¬ (BeginsBlank rest)

-- the empty lines in front of a text are fixed
pub blank_unique : (a b : List LineEnd) (r q : List ℕ) → ¬ (BeginsBlank r) → ¬ (BeginsBlank q)
    → print_blank a ++ r ≡ print_blank b ++ q → a ≡ b
blank_unique [] [] r q begins begins' e = refl
blank_unique [] (y ∷ b) r q begins begins' e =
    absurd (begins (y, print_blank b ++ q, e ∙ append_assoc (print_end y) (print_blank b) q))
blank_unique (x ∷ a) [] r q begins begins' e =
    absurd (begins' (x, print_blank a ++ r, sym e ∙ append_assoc (print_end x) (print_blank a) r))
blank_unique (x ∷ a) (y ∷ b) r q begins begins' e =
    let first = print_end_unique x y _ _
    (sym (append_assoc (print_end x) (print_blank a) r) ∙ e ∙ append_assoc (print_end y) (print_blank b) q) in
    let others = blank_unique a b r q begins begins' first.1 in
    λ i. first.0 i ∷ others i

-- of two bytes or more, those that follow make no empty line in front
pub begins_blank_front : (text more : List ℕ) → 2 ≤ length text → BeginsBlank (text ++ more) → BeginsBlank text
begins_blank_front [] more long x = absurd (omega arith)
begins_blank_front (a ∷ []) more long x = absurd (omega arith)
begins_blank_front (a ∷ b ∷ text) more long (crlf, rest, e) = (crlf, text, cc)
begins_blank_front (a ∷ b ∷ text) more long (lf, rest, e) = (lf, b ∷ text, cc)

-- one more line end in front
blank_line_more : (end : LineEnd) (text rest : List ℕ) → text ≡ print_end end ++ rest → BlankFront rest → BlankFront text
blank_line_more end text rest e f = record {
  ends = end ∷ f.ends;
  rest = f.rest;
  text_is = e ∙ ap (λ (t : List ℕ). print_end end ++ t) f.text_is ∙ sym (append_assoc (print_end end) (print_blank f.ends) f.rest);
  begins = f.begins;
}

-- none in front
no_blank_line : (text : List ℕ) → ¬ (BeginsBlank text) → BlankFront text
no_blank_line text begins = record { ends = []; rest = text; text_is = refl; begins = begins }

-- no line end begins an empty text
begins_not_empty : ¬ (BeginsBlank [])
begins_not_empty (crlf, rest, e) = cc
begins_not_empty (lf, rest, e) = cc

-- one byte that is no line feed is no empty line
begins_no_byte : (a : ℕ) → (a ≡ 10 → ⊥) → ¬ (BeginsBlank (a ∷ []))
begins_no_byte a not_lf (crlf, rest, e) = cc
begins_no_byte a not_lf (lf, rest, e) = not_lf (cc)

-- a text whose first byte is neither LF nor CR begins with no empty line
pub begins_no_cr : (a b : ℕ) (text : List ℕ) → (a ≡ 10 → ⊥) → (a ≡ 13 → ⊥) → ¬ (BeginsBlank (a ∷ b ∷ text))
begins_no_cr a b text not_lf not_cr (crlf, rest, e) = not_cr (cc)
begins_no_cr a b text not_lf not_cr (lf, rest, e) = not_lf (cc)

-- nor does one whose first two bytes are no line feed
begins_no_crlf : (a b : ℕ) (text : List ℕ) → (a ≡ 10 → ⊥) → (b ≡ 10 → ⊥) → ¬ (BeginsBlank (a ∷ b ∷ text))
begins_no_crlf a b text not_lf not_lf' (crlf, rest, e) = not_lf' (cc)
begins_no_crlf a b text not_lf not_lf' (lf, rest, e) = not_lf (cc)

-- every text has its empty lines in front
pub blank_front : (text : List ℕ) → BlankFront text
blank_front [] = no_blank_line [] begins_not_empty
blank_front (a ∷ []) =
    elim (cases_eq a 10) [
      | inl is_lf ↦ blank_line_more lf (a ∷ []) [] (λ i. is_lf i ∷ []) (blank_front [])
      | inr not_lf ↦ no_blank_line (a ∷ []) (begins_no_byte a not_lf)
    ]
blank_front (a ∷ b ∷ text) =
    elim (cases_eq a 10) [
      | inl is_lf ↦ blank_line_more lf (a ∷ b ∷ text) (b ∷ text) (λ i. is_lf i ∷ b ∷ text) (blank_front (b ∷ text))
      | inr not_lf ↦ elim (cases_eq a 13) [
        | inr not_cr ↦ no_blank_line (a ∷ b ∷ text) (begins_no_cr a b text not_lf not_cr)
        | inl is_cr ↦ elim (cases_eq b 10) [
          | inl is_lf ↦ blank_line_more crlf (a ∷ b ∷ text) text (λ i. is_cr i ∷ is_lf i ∷ text) (blank_front text)
          | inr not_lf' ↦ no_blank_line (a ∷ b ∷ text) (begins_no_crlf a b text not_lf not_lf')
        ]
      ]
    ]

-- ---- at the end

-- the text is a line feed or CR LF
abbrev is_end : List ℕ → Bool
is_end (a ∷ []) = eqb a 10
is_end (a ∷ b ∷ []) = eqb a 13 && eqb b 10
is_end _ = false

-- `EndsBlank` as a test
abbrev pub ends_blank : List ℕ → Bool
ends_blank [] = false
ends_blank (a ∷ text) = (eqb a 10 && is_end text) || ends_blank text

-- the test passes at such a text
ends_blank_at : (before : List ℕ) (end : LineEnd) → ends_blank (before ++ 10 ∷ print_end end) ≡ true
ends_blank_at [] crlf = refl
ends_blank_at [] lf = refl
ends_blank_at (b ∷ before) end = or_right _ _ (ends_blank_at before end)

-- what ends with an empty line passes the test
pub ends_blank_true : (text : List ℕ) → EndsBlank text → ends_blank text ≡ true
ends_blank_true text (before, end, e) = ap ends_blank e ∙ ends_blank_at before end

-- a line end, read off the test
end_read : (text : List ℕ) → is_end text ≡ true → (end : LineEnd) × (text ≡ print_end end)
end_read [] e = cc
end_read (a ∷ []) e = let is_lf = eqb-true a 10 e in (lf, λ i. is_lf i ∷ [])
end_read (a ∷ b ∷ []) e =
    let both = and_parts _ _ e in
    let is_cr = eqb-true a 13 both.0 in
    let is_lf = eqb-true b 10 both.1 in
    (crlf, λ i. is_cr i ∷ is_lf i ∷ [])
end_read (a ∷ b ∷ c ∷ text) e = cc

-- one more byte in front of the empty line at the end
ends_more : (a : ℕ) (text : List ℕ) → EndsBlank text → EndsBlank (a ∷ text)
ends_more a text (before, end, e) = (a ∷ before, end, ap (λ (t : List ℕ). a ∷ t) e)

-- the empty line at the end begins behind the first byte
ends_here : (a : ℕ) (text : List ℕ) → (eqb a 10 && is_end text) ≡ true → EndsBlank (a ∷ text)
ends_here a text e =
    let both = and_parts _ _ e in
    let is_lf = eqb-true a 10 both.0 in
    let read = end_read text both.1 in
    ([], read.0, λ i. is_lf i ∷ read.1 i)

-- what passes the test ends with an empty line
pub ends_blank_read : (text : List ℕ) → ends_blank text ≡ true → EndsBlank text
ends_blank_read [] e = cc
ends_blank_read (a ∷ text) e =
    elim (or_cases _ _ e) [
      | inl here ↦ ends_here a text here
      | inr later ↦ ends_more a text (ends_blank_read text later)
    ]

-- a text that ends with an empty line has two bytes or more
pub ends_blank_long : (text : List ℕ) → EndsBlank text → 2 ≤ length text
ends_blank_long text (before, crlf, e) = omega (arith, ap length e, length-append before (10 ∷ 13 ∷ 10 ∷ []))
ends_blank_long text (before, lf, e) = omega (arith, ap length e, length-append before (10 ∷ 10 ∷ []))
