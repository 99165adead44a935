-- The head on the stream: it is one, more bytes leave it, and a search finds it.
use Rattle.std.proofs.Common.{◌≡◌, ℕ, suc, ◌+◌, ◌-◌, ◌≤◌, ◌⊎◌, Bool, List, ◌++◌, length, take, drop, slice_range, refl, sym, ap, ◌∙◌, subst, inl, inr, arith, length-append, length-drop}
use Rattle.std.proofs.lemmas.Bool.{cases_order, false≢true}
use Rattle.std.proofs.lemmas.List.{take-append-drop, take-append-le, drop-append-le, length-take, length-take-le, take_at, drop_at}
use Rattle.httparse.specs.Grammar.{print_blank}
use Rattle.model_h1.specs.HeadPiece.{AreBlankLines, BeginsBlank, EndsBlank, IsHeadPiece, HasNoHeadPiece}
use Rattle.model_h1.proofs.SearchLemmas.{NoneBelow, FirstBelow, first_below}
use Rattle.model_h1.proofs.BlankLemmas.{blank_unique, begins_blank_front, blank_front, ends_blank, ends_blank_true, ends_blank_read, ends_blank_long}

-- the empty lines in front end at one place
pub start_unique : (bytes : List ℕ) (s s' : ℕ) → s ≤ length bytes → s' ≤ length bytes
    → AreBlankLines (take s bytes) → AreBlankLines (take s' bytes)
    → ¬ (BeginsBlank (drop s bytes)) → ¬ (BeginsBlank (drop s' bytes)) → s ≡ s'
start_unique bytes s s' fits fits' blank blank' begins begins' =
    let whole = take-append-drop s bytes in
    let whole' = take-append-drop s' bytes in
    let lines = blank_unique blank.0 blank'.0 (drop s bytes) (drop s' bytes) begins begins'
    (ap (λ (t : List ℕ). t ++ drop s bytes) (sym blank.1) ∙ whole ∙ sym whole' ∙ ap (λ (t : List ℕ). t ++ drop s' bytes) blank'.1) in
    let same : take s bytes ≡ take s' bytes = blank.1 ∙ ap print_blank lines ∙ sym blank'.1 in
    sym (length-take-le s bytes fits) ∙ ap length same ∙ length-take-le s' bytes fits'

-- from one start there is one end
end_unique : (bytes : List ℕ) (s e e' : ℕ) → IsHeadPiece bytes s e → IsHeadPiece bytes s e' → e ≡ e'
end_unique bytes s e e' x y =
    elim (cases_order e e') [
      | inl same ↦ same
      | inr (inl before) ↦ absurd (y.first e x.ordered before x.ends)
      | inr (inr behind) ↦ absurd (x.first e' y.ordered behind y.ends)
    ]

-- one text has one head
pub head_piece_unique : (bytes : List ℕ) (s e s' e' : ℕ) → IsHeadPiece bytes s e → IsHeadPiece bytes s' e'
    → (s ≡ s') × (e ≡ e')
head_piece_unique bytes s e s' e' x y =
    let fits : s ≤ length bytes = omega (arith, x.ordered, x.in_range) in
    let fits' : s' ≤ length bytes = omega (arith, y.ordered, y.in_range) in
    let start = start_unique bytes s s' fits fits' x.blank y.blank x.begins y.begins in
    (start, end_unique bytes s' e e' (subst (λ n. IsHeadPiece bytes n e) start x) y)

-- a part of the first bytes is the same with more bytes behind
pub slice_range-append : (bytes more : List ℕ) (s e : ℕ) → s ≤ e → e ≤ length bytes
    → slice_range (bytes ++ more) s e ≡ slice_range bytes s e
slice_range-append bytes more s e ordered fits =
    let start : s ≤ length bytes = omega arith in
    let part : e - s ≤ length (drop s bytes) = omega (arith, length-drop s bytes) in
    ap (take (e - s)) (drop-append-le s bytes more start) ∙ take-append-le (e - s) (drop s bytes) more part

-- the bytes from the start of a head are two or more
head_long : (bytes : List ℕ) (s e : ℕ) → IsHeadPiece bytes s e → 2 ≤ length (drop s bytes)
head_long bytes s e x =
    omega (arith, ends_blank_long _ x.ends, length-take (e - s) (drop s bytes))

-- a head stays the head when bytes follow
pub head_piece_append : (bytes more : List ℕ) (s e : ℕ) → IsHeadPiece bytes s e → IsHeadPiece (bytes ++ more) s e
head_piece_append bytes more s e x =
    let start : s ≤ length bytes = omega (arith, x.ordered, x.in_range) in
    record {
      ordered = x.ordered;
      in_range = omega (arith, x.in_range, length-append bytes more);
      blank = subst AreBlankLines (sym (take-append-le s bytes more start)) x.blank;
      begins = λ b. x.begins (begins_blank_front (drop s bytes) more (head_long bytes s e x)
          (subst BeginsBlank (drop-append-le s bytes more start) b));
      ends = subst EndsBlank (sym (slice_range-append bytes more s e x.ordered x.in_range)) x.ends;
      first = λ place from before ends. x.first place from before
          (subst EndsBlank (slice_range-append bytes more s place from (omega (arith, x.in_range, before))) ends);
    }

-- the text from the start has an empty line behind so many bytes
abbrev pub ends_behind : List ℕ → ℕ → ℕ → Bool
ends_behind bytes s k = ends_blank (slice_range bytes s (s + k))

-- no end, no head
no_head : (bytes : List ℕ) (s : ℕ) → s ≤ length bytes → AreBlankLines (take s bytes) → ¬ (BeginsBlank (drop s bytes))
    → NoneBelow (ends_behind bytes s) (suc (length bytes - s)) → HasNoHeadPiece bytes
no_head bytes s fits blank begins none start end x =
    let same = start_unique bytes start s (omega (arith, x.ordered, x.in_range)) fits x.blank blank x.begins begins in
    let place : s + (end - s) ≡ end = omega (arith, x.ordered, same) in
    let ends : EndsBlank (slice_range bytes s end) = subst (λ n. EndsBlank (slice_range bytes n end)) same x.ends in
    let passes = ends_blank_true _ (subst (λ n. EndsBlank (slice_range bytes s n)) (sym place) ends) in
    false≢true (sym (none (end - s) (omega (arith, x.in_range))) ∙ passes)

-- the first end is that of the head
head_found : (bytes : List ℕ) (s : ℕ) → s ≤ length bytes → AreBlankLines (take s bytes) → ¬ (BeginsBlank (drop s bytes))
    → (f : FirstBelow (ends_behind bytes s) (suc (length bytes - s))) → IsHeadPiece bytes s (s + f.place)
head_found bytes s fits blank begins f = record {
  ordered = omega arith;
  in_range = omega (arith, f.below);
  blank = blank;
  begins = begins;
  ends = ends_blank_read _ f.passes;
  first = λ place from before ends.
      let on : s + (place - s) ≡ place = omega arith in
      let passes = ends_blank_true _ (subst (λ n. EndsBlank (slice_range bytes s n)) (sym on) ends) in
      false≢true (sym (f.none (place - s) (omega arith)) ∙ passes);
}

-- every text has a head or has none
pub head_piece_decided : (bytes : List ℕ) → HasNoHeadPiece bytes ⊎ ((s : ℕ) × (e : ℕ) × IsHeadPiece bytes s e)
head_piece_decided bytes =
    let front = blank_front bytes in
    let s = length (print_blank front.ends) in
    let fits : s ≤ length bytes = omega (arith, ap length front.text_is, length-append (print_blank front.ends) front.rest) in
    let head : take s bytes ≡ print_blank front.ends = ap (take s) front.text_is ∙ take_at _ front.rest s refl in
    let tail : drop s bytes ≡ front.rest = ap (drop s) front.text_is ∙ drop_at _ front.rest s refl in
    let blank : AreBlankLines (take s bytes) = (front.ends, head) in
    let begins : ¬ (BeginsBlank (drop s bytes)) = λ b. front.begins (subst BeginsBlank tail b) in
    elim (first_below (ends_behind bytes s) (suc (length bytes - s))) [
      | inl none ↦ inl (no_head bytes s fits blank begins none)
      | inr f ↦ inr (s, s + f.place, head_found bytes s fits blank begins f)
    ]
