-- A search for the first head finds it, where there is one.
use Rattle.std.proofs.Common.{◌≡◌, ℕ, zero, suc, ◌+◌, ◌-◌, ◌<◌, ◌≤◌, ◌⊎◌, Bool, true, false, ◌&&◌, cond, List, [], ◌∷◌, ◌++◌, length, take, drop, slice_range, Option, Some, None, refl, sym, ap, ◌∙◌, subst, inl, inr, arith, length-append, length-drop, eqb}
use Rattle.std.proofs.Math.Seq.{take-nil}
use Rattle.std.proofs.lemmas.Bool.{cases_Bool, and_parts, and_from, false≢true, eqb-true, eq-eqb, cond-true, cond-false}
use Rattle.std.proofs.lemmas.List.{take-append-drop, length-take, take_at, drop_at}
use Rattle.std.specs.Prelude.{nat_lt, option_map}
use Rattle.httparse.specs.Grammar.{LineEnd, crlf, lf, print_end, print_blank}
use Rattle.model_h1.specs.HeadPiece.{AreBlankLines, BeginsBlank, EndsBlank, IsHeadPiece, HasNoHeadPiece}
use Rattle.model_h1.proofs.BlankLemmas.{blank_front, ends_blank_long}
use Rattle.model_h1.proofs.HeadPieceLemmas.{start_unique}
use Rattle.h1_decoder.specs.HeadScan.{AnswersScan}
use Rattle.h1_connection.specs.Scan.{begins_lf, line_end_length, begins_line_end, start_of, length_of, piece_from, scan_of}

-- ---- a line end in front

printed_length : (end : LineEnd) (rest : List ℕ) → line_end_length (print_end end ++ rest) ≡ length (print_end end)
printed_length crlf rest = refl
printed_length lf rest = refl

-- its length is told
begun_length : (text rest : List ℕ) (end : LineEnd) → text ≡ print_end end ++ rest → line_end_length text ≡ length (print_end end)
begun_length text rest end is = ap line_end_length is ∙ printed_length end rest

end_short : (end : LineEnd) → length (print_end end) ≤ 2
end_short crlf = omega arith
end_short lf = omega arith

printed_begins : (end : LineEnd) (rest : List ℕ) → begins_line_end (print_end end ++ rest) ≡ true
printed_begins crlf rest = refl
printed_begins lf rest = refl

-- the test passes where there is one
begins_true : (text : List ℕ) → BeginsBlank text → begins_line_end text ≡ true
begins_true text (end, rest, is) = ap begins_line_end is ∙ printed_begins end rest

lf_read : (text : List ℕ) → begins_lf text ≡ true → (rest : List ℕ) × (text ≡ 10 ∷ rest)
lf_read [] is = absurd (false≢true is)
lf_read (b ∷ text) is = let is_lf = eqb-true b 10 is in (text, λ i. is_lf i ∷ text)

crlf_read : (b : ℕ) (text : List ℕ) → (eqb b 13 && begins_lf text) ≡ true → BeginsBlank (b ∷ text)
crlf_read b text is =
    let both = and_parts _ _ is in
    let is_cr = eqb-true b 13 both.0 in
    let read = lf_read text both.1 in
    (crlf, read.0, λ i. is_cr i ∷ read.1 i)

begins_read_by : (b : ℕ) (text : List ℕ) (is_lf is_crlf : Bool) → eqb b 10 ≡ is_lf → (eqb b 13 && begins_lf text) ≡ is_crlf
    → nat_lt 0 (cond is_lf 1 (cond is_crlf 2 0)) ≡ true → BeginsBlank (b ∷ text)
begins_read_by b text true is_crlf at_lf at_crlf is = let is_lf = eqb-true b 10 at_lf in (lf, text, λ i. is_lf i ∷ text)
begins_read_by b text false true at_lf at_crlf is = crlf_read b text at_crlf
begins_read_by b text false false at_lf at_crlf is = absurd (false≢true is)

-- and nowhere else
begins_read : (text : List ℕ) → begins_line_end text ≡ true → BeginsBlank text
begins_read [] is = absurd (false≢true is)
begins_read (b ∷ text) is = begins_read_by b text _ _ refl refl is

-- ---- where the head starts

start_none : (text : List ℕ) → ¬ (BeginsBlank text) → start_of text ≡ 0
start_none [] none = refl
start_none (b ∷ text) none =
    elim (cases_Bool (begins_line_end (b ∷ text))) [
      | inl passes ↦ absurd (none (begins_read (b ∷ text) passes))
      | inr fails ↦ cond-false (begins_line_end (b ∷ text)) (suc (start_of text)) 0 fails
    ]

-- behind the empty lines
start_printed : (ends : List LineEnd) (rest : List ℕ) → ¬ (BeginsBlank rest) → start_of (print_blank ends ++ rest) ≡ length (print_blank ends)
start_printed [] rest none = start_none rest none
start_printed (crlf ∷ ends) rest none = ap (λ (n : ℕ). suc (suc n)) (start_printed ends rest none)
start_printed (lf ∷ ends) rest none = ap suc (start_printed ends rest none)

-- ---- where it ends

-- the length is that up to the first place at which the text ends with an empty line
abbrev FirstEnd : List ℕ → Option ℕ → Type 0
FirstEnd text None = (k : ℕ) → ¬ (EndsBlank (take k text))
FirstEnd text (Some n) = (n ≤ length text) × EndsBlank (take n text) × ((k : ℕ) → k < n → ¬ (EndsBlank (take k text)))

ends_not_empty : ¬ (EndsBlank [])
ends_not_empty ends = absurd (omega (arith, ends_blank_long [] ends))

ends_late : (k : ℕ) (text : List ℕ) → EndsBlank (take k text) → 2 ≤ k
ends_late k text ends = omega (arith, ends_blank_long (take k text) ends, length-take k text)

-- the empty line at the end is all that is behind the first byte, or it is at the end of that
ends_parts : (b : ℕ) (text : List ℕ) → EndsBlank (b ∷ text) → ((b ≡ 10) × ((end : LineEnd) × (text ≡ print_end end))) ⊎ EndsBlank text
ends_parts b text ([], end, is) = inl (cc, (end, cc))
ends_parts b text (c ∷ before, end, is) = inr (before, end, cc)

ends_more : (b : ℕ) (text : List ℕ) → EndsBlank text → EndsBlank (b ∷ text)
ends_more b text (before, end, is) = (b ∷ before, end, ap (λ (t : List ℕ). b ∷ t) is)

-- a line end that is taken stands in front
taken_front : (k : ℕ) (text : List ℕ) (end : LineEnd) → take k text ≡ print_end end → text ≡ print_end end ++ drop k text
taken_front k text end is = sym (take-append-drop k text) ∙ ap (λ (t : List ℕ). t ++ drop k text) is

taken_late : (k : ℕ) (text : List ℕ) (end : LineEnd) → take k text ≡ print_end end → line_end_length text ≤ k
taken_late k text end is =
    omega (arith, begun_length text (drop k text) end (taken_front k text end is), ap length is, length-take k text)

-- no end comes before that of a line end behind a line feed
none_before : (b : ℕ) (text : List ℕ) → line_end_length text ≤ 2 → (k : ℕ) → k < suc (line_end_length text) → ¬ (EndsBlank (take k (b ∷ text)))
none_before b text short zero before ends = ends_not_empty ends
none_before b text short (suc k) before ends =
    elim (ends_parts b (take k text) ends) [
      | inl here ↦ absurd (omega (arith, before, taken_late k text here.1.0 here.1.1))
      | inr later ↦ absurd (omega (arith, before, short, ends_late k text later))
    ]

first_here : (b : ℕ) (text : List ℕ) → b ≡ 10 → BeginsBlank text → FirstEnd (b ∷ text) (Some (suc (line_end_length text)))
first_here b text is_lf (end, rest, is) =
    let long : line_end_length text ≡ length (print_end end) = begun_length text rest end is in
    let taken : take (line_end_length text) text ≡ print_end end =
    ap (λ (n : ℕ). take n text) long ∙ ap (take (length (print_end end))) is ∙ take_at (print_end end) rest (length (print_end end)) refl in
    let within : line_end_length text ≤ length text = omega (arith, long, ap length is, length-append (print_end end) rest) in
    (omega (arith, within), ([], end, λ i. is_lf i ∷ taken i), none_before b text (omega (arith, long, end_short end)))

-- where no empty line is behind the first byte, an end of the text is one of what follows it
module _ (b : ℕ) (text : List ℕ) (fails : (eqb b 10 && begins_line_end text) ≡ false) where
  not_here : (k : ℕ) (end : LineEnd) → b ≡ 10 → ¬ (take k text ≡ print_end end)
  not_here k end is_lf is =
      false≢true (sym fails ∙ and_from _ _ (eq-eqb b 10 is_lf) (begins_true text (end, drop k text, taken_front k text end is)))

  ends_later : (k : ℕ) → EndsBlank (b ∷ take k text) → EndsBlank (take k text)
  ends_later k ends =
      elim (ends_parts b (take k text) ends) [
        | inl here ↦ absurd (not_here k here.1.0 here.0 here.1.1)
        | inr later ↦ later
      ]

  none_later : FirstEnd text None → (k : ℕ) → ¬ (EndsBlank (take k (b ∷ text)))
  none_later none zero ends = ends_not_empty ends
  none_later none (suc k) ends = none k (ends_later k ends)

  none_sooner : (n : ℕ) → ((k : ℕ) → k < n → ¬ (EndsBlank (take k text))) → (k : ℕ) → k < suc n → ¬ (EndsBlank (take k (b ∷ text)))
  none_sooner n none zero before ends = ends_not_empty ends
  none_sooner n none (suc k) before ends = none k (omega (arith, before)) (ends_later k ends)

  first_later : (found : Option ℕ) → FirstEnd text found → FirstEnd (b ∷ text) (option_map suc found)
  first_later None none = none_later none
  first_later (Some n) first = (omega (arith, first.0), ends_more b (take n text) first.1, none_sooner n first.2)

-- the length is found
first_end : (text : List ℕ) → FirstEnd text (length_of text)
first_end [] = λ k ends. ends_not_empty (subst EndsBlank (take-nil k) ends)
first_end (b ∷ text) =
    elim (cases_Bool (eqb b 10 && begins_line_end text)) [
      | inl passes ↦
          let both = and_parts (eqb b 10) (begins_line_end text) passes in
          subst (FirstEnd (b ∷ text)) (sym (cond-true _ (Some (suc (line_end_length text))) (option_map suc (length_of text)) passes))
          (first_here b text (eqb-true b 10 both.0) (begins_read text both.1))
      | inr fails ↦
          subst (FirstEnd (b ∷ text)) (sym (cond-false _ (Some (suc (line_end_length text))) (option_map suc (length_of text)) fails))
          (first_later b text fails (length_of text) (first_end text))
    ]

-- ---- the head

-- from the place behind the empty lines it is found
module _ (bytes : List ℕ) (s : ℕ) (fits : s ≤ length bytes) (blank : AreBlankLines (take s bytes)) (begins : ¬ (BeginsBlank (drop s bytes))) where
  no_piece : ((k : ℕ) → ¬ (EndsBlank (take k (drop s bytes)))) → HasNoHeadPiece bytes
  no_piece none start end x =
      let same = start_unique bytes start s (omega (arith, x.ordered, x.in_range)) fits x.blank blank x.begins begins in
      none (end - s) (subst (λ (n : ℕ). EndsBlank (slice_range bytes n end)) same x.ends)

  one_piece : (n : ℕ) → FirstEnd (drop s bytes) (Some n) → IsHeadPiece bytes s (s + n)
  one_piece n first = record {
    ordered = omega arith;
    in_range = omega (arith, first.0, length-drop s bytes, fits);
    blank = blank;
    begins = begins;
    ends = subst (λ (k : ℕ). EndsBlank (take k (drop s bytes))) (omega arith) first.1;
    first = λ place from before ends. first.2 (place - s) (omega (arith, before, from)) ends;
  }

  piece_answers : (found : Option ℕ) → FirstEnd (drop s bytes) found → AnswersScan bytes (piece_from s found)
  piece_answers None none = no_piece none
  piece_answers (Some n) first = one_piece n first

pub scan_answers : (bytes : List ℕ) → AnswersScan bytes (scan_of bytes)
unfolding scan_of
scan_answers bytes =
    let front = blank_front bytes in
    let s = length (print_blank front.ends) in
    let start : start_of bytes ≡ s = ap start_of front.text_is ∙ start_printed front.ends front.rest front.begins in
    let fits : s ≤ length bytes = omega (arith, ap length front.text_is, length-append (print_blank front.ends) front.rest) in
    let head : take s bytes ≡ print_blank front.ends = ap (take s) front.text_is ∙ take_at (print_blank front.ends) front.rest s refl in
    let tail : drop s bytes ≡ front.rest = ap (drop s) front.text_is ∙ drop_at (print_blank front.ends) front.rest s refl in
    let begins : ¬ (BeginsBlank (drop s bytes)) = λ b. front.begins (subst BeginsBlank tail b) in
    subst (λ (n : ℕ). AnswersScan bytes (piece_from n (length_of (drop n bytes)))) (sym start)
    (piece_answers bytes s fits (front.ends, head) begins (length_of (drop s bytes)) (first_end (drop s bytes)))
