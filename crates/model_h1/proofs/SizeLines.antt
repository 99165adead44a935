-- A size line leads to its end, where its size is known, and says nothing of the body.
use Rattle.std.proofs.Common.{◌≡◌, ℕ, ◌+◌, ◌*◌, ◌^◌, ◌<◌, ◌≤◌, true, false, eqb, ltb, List, [], ◌∷◌, ◌++◌, refl, sym, ap, ◌∙◌, subst, arith, ⊎_elim, append_assoc}
use Rattle.std.specs.Prelude.{IsTrue, ⊤}
use Rattle.std.specs.List.{list_all}
use Rattle.std.proofs.lemmas.Bool.{and_parts, or_cases, ne_eqb, eqb-true, lt-ltb, cond-true, cond-false, false≢true}
use Rattle.std.specs.Char.{digit_value}
use Rattle.std.specs.Str.Parse.{digits_value_after, AllDigits}
use Rattle.httparse.specs.Grammar.{is_ows, is_value_byte}
use Rattle.httparse.specs.Ascii.{crlf_bytes}
use Rattle.model_h1.specs.ChunkedText.{IsExtension, SaysSize}
use Rattle.model_h1.specs.Place.{Place, in_size, in_blanks, in_extension, size_cr, start, after_line, step}
use Rattle.model_h1.specs.Reading.{read}
use Rattle.model_h1.proofs.ReadSteps.{read_quiet}

-- in the digits, the blanks or the extension of a size line
abbrev pub InSizeLine : Place → Type 0
InSizeLine (in_size size) = ⊤
InSizeLine (in_blanks size) = ⊤
InSizeLine (in_extension size) = ⊤
InSizeLine p = ⊥

-- the text leads from one place to another, and all places in front of its bytes are in a size line
abbrev pub Leads : Place → List ℕ → Place → Type 0
Leads p [] q = p ≡ q
Leads p (b ∷ text) q = InSizeLine p × Leads (step p b) text q

-- one more byte in front
leads_on : (p next q : Place) (b : ℕ) (text : List ℕ) → InSizeLine p → step p b ≡ next → Leads next text q → Leads p (b ∷ text) q
leads_on p next q b text within e l = (within, subst (λ s. Leads s text q) (sym e) l)

-- a byte of text is no CR
pub value_no_cr : (b : ℕ) → is_value_byte b ≡ true → eqb b 13 ≡ false
value_no_cr b ok = ne_eqb b 13 (λ e. false≢true (sym (ap is_value_byte e) ∙ ok))

-- a blank is no digit
blank_no_digit : (b : ℕ) → is_ows b ≡ true → ltb (digit_value b) 16 ≡ false
blank_no_digit b ok =
    ⊎_elim (λ e. ap (λ x. ltb (digit_value x) 16) (eqb-true b 32 e)) (λ e. ap (λ x. ltb (digit_value x) 16) (eqb-true b 9 e))
    (or_cases _ _ ok)

-- a byte of an extension
step_text : (size b : ℕ) → is_value_byte b ≡ true → step (in_extension size) b ≡ in_extension size
step_text size b ok = cond-false _ _ _ (value_no_cr b ok) ∙ cond-true _ _ _ ok

-- the first blank behind the digits
step_size_blank : (size b : ℕ) → is_ows b ≡ true → step (in_size size) b ≡ in_blanks size
step_size_blank size b ok = cond-false _ _ _ (blank_no_digit b ok) ∙ cond-true _ _ _ ok

-- a further blank
step_blank : (size b : ℕ) → is_ows b ≡ true → step (in_blanks size) b ≡ in_blanks size
step_blank size b ok = cond-true _ _ _ ok

-- a digit while the size fits
step_digit : (size b : ℕ) → digit_value b < 16 → size * 16 + digit_value b < 2 ^ 64 → step (in_size size) b ≡ in_size (size * 16 + digit_value b)
step_digit size b digit fits = cond-true _ _ _ (lt-ltb _ _ digit) ∙ cond-true _ _ _ (lt-ltb _ _ fits)

-- what stands in front of the LF of a size line: an extension's text, or an extension, or blanks and that, and CR
abbrev up_to_cr : List ℕ → List ℕ
up_to_cr text = text ++ 13 ∷ []

-- what stands behind the digits
abbrev behind_digits : List ℕ → List ℕ → List ℕ
behind_digits blanks extension = blanks ++ up_to_cr extension

-- an extension's text
leads_text : (text : List ℕ) (size : ℕ) → IsTrue (list_all is_value_byte text) → Leads (in_extension size) (up_to_cr text) (size_cr size)
leads_text [] size ok = (tt, refl)
leads_text (b ∷ text) size ok =
    let parts = and_parts _ _ ok in
    leads_on (in_extension size) _ _ b (up_to_cr text) tt (step_text size b parts.0) (leads_text text size parts.1)

-- an extension, if there is one, from a place that takes a semicolon and CR
leads_extension : (extension : List ℕ) (p : Place) (size : ℕ) → InSizeLine p → step p 59 ≡ in_extension size → step p 13 ≡ size_cr size
    → IsExtension extension → Leads p (up_to_cr extension) (size_cr size)
leads_extension extension p size within semicolon cr ok =
    ⊎_elim
    (λ none. subst (λ x. Leads p (up_to_cr x) (size_cr size)) (sym none) (leads_on p _ _ 13 [] within cr refl))
    (λ some. subst (λ x. Leads p (up_to_cr x) (size_cr size)) (sym some.1)
    (leads_on p _ _ 59 (up_to_cr some.0) within semicolon (leads_text some.0 size some.2)))
    ok

-- blanks and what follows them
leads_blanks : (blanks extension : List ℕ) (size : ℕ) → IsTrue (list_all is_ows blanks) → IsExtension extension
    → Leads (in_blanks size) (behind_digits blanks extension) (size_cr size)
leads_blanks [] extension size blank ok = leads_extension extension (in_blanks size) size tt refl refl ok
leads_blanks (b ∷ blanks) extension size blank ok =
    let parts = and_parts _ _ blank in
    leads_on (in_blanks size) _ _ b (behind_digits blanks extension) tt (step_blank size b parts.0)
    (leads_blanks blanks extension size parts.1 ok)

-- what follows the digits
leads_behind_digits : (blanks extension : List ℕ) (size : ℕ) → IsTrue (list_all is_ows blanks) → IsExtension extension
    → Leads (in_size size) (behind_digits blanks extension) (size_cr size)
leads_behind_digits [] extension size blank ok = leads_extension extension (in_size size) size tt refl refl ok
leads_behind_digits (b ∷ blanks) extension size blank ok =
    let parts = and_parts _ _ blank in
    leads_on (in_size size) _ _ b (behind_digits blanks extension) tt (step_size_blank size b parts.0)
    (leads_blanks blanks extension size parts.1 ok)

-- more digits make no smaller number
digits_grow : (digits : List ℕ) (n : ℕ) → n ≤ digits_value_after 16 n digits
digits_grow [] n = omega arith
digits_grow (d ∷ digits) n = omega (arith, digits_grow digits (n * 16 + digit_value d))

-- digits and what follows them
leads_digits : (digits : List ℕ) (n : ℕ) (text : List ℕ) (q : Place) → AllDigits 16 digits → digits_value_after 16 n digits < 2 ^ 64
    → Leads (in_size (digits_value_after 16 n digits)) text q → Leads (in_size n) (digits ++ text) q
leads_digits [] n text q digit fits l = l
leads_digits (d ∷ digits) n text q digit fits l =
    let more = n * 16 + digit_value d in
    let grows = digits_grow digits more in
    leads_on (in_size n) (in_size more) q d (digits ++ text) tt (step_digit n d digit.0 (omega arith))
    (leads_digits digits more text q digit.1 fits l)

-- a size line, and what leads from the start to its LF
pub record SizeLine (line : List ℕ) (size : ℕ) : Type 0 where
  pub front : List ℕ
  pub leads : Leads start front (size_cr size)
  pub spelled : line ≡ front ++ 10 ∷ []

-- a line that says a size is one
pub size_line : (line : List ℕ) (size : ℕ) → SaysSize line size → SizeLine line size
size_line line size ok =
    let text = behind_digits ok.blanks ok.extension in
    let fits = subst (λ n. n < 2 ^ 64) (sym ok.says) ok.fits in
    let behind = subst (λ n. Leads (in_size n) text (size_cr size)) (sym ok.says)
    (leads_behind_digits ok.blanks ok.extension size ok.blank ok.well_formed) in
    let regrouped : ok.digits ++ (ok.blanks ++ (ok.extension ++ crlf_bytes)) ≡ (ok.digits ++ text) ++ 10 ∷ [] = simp append_assoc in
    record {
      front = ok.digits ++ text;
      leads = leads_digits ok.digits 0 text (size_cr size) ok.hexadecimal fits behind;
      spelled = ok.spelled ∙ regrouped;
    }

-- bytes in a size line are no part of the body
leads_read : (p q : Place) (text rest : List ℕ) → Leads p text q → read p (text ++ rest) ≡ read q rest
leads_read p q [] rest l = ap (λ s. read s rest) l
leads_read (in_size n) q (b ∷ text) rest l =
    read_quiet (in_size n) _ b (text ++ rest) tt refl ∙ leads_read (step (in_size n) b) q text rest l.1
leads_read (in_blanks n) q (b ∷ text) rest l =
    read_quiet (in_blanks n) _ b (text ++ rest) tt refl ∙ leads_read (step (in_blanks n) b) q text rest l.1
leads_read (in_extension n) q (b ∷ text) rest l =
    read_quiet (in_extension n) _ b (text ++ rest) tt refl ∙ leads_read (step (in_extension n) b) q text rest l.1
leads_read p q (b ∷ text) rest l = absurd l.0

-- nor is a size line
pub size_line_read : (line : List ℕ) (size : ℕ) (rest : List ℕ) → SaysSize line size → read start (line ++ rest) ≡ read (after_line size) rest
size_line_read line size rest ok =
    let l = size_line line size ok in
    ap (λ x. read start (x ++ rest)) l.spelled
    ∙ ap (read start) (append_assoc l.front (10 ∷ []) rest)
    ∙ leads_read start (size_cr size) l.front (10 ∷ rest) l.leads
    ∙ read_quiet (size_cr size) (after_line size) 10 rest tt refl
