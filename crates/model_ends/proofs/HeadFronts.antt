-- A head of all bytes that ends among the first ones is a head of these.
use Rattle.std.proofs.Common.{◌≡◌, ℕ, ◌+◌, ◌<◌, ◌≤◌, List, ◌++◌, length, drop, slice_range, sym, ap, ◌∙◌, subst, inl, inr, arith, length-drop, append_assoc}
use Rattle.std.proofs.lemmas.Bool.{cases_lt}
use Rattle.std.proofs.lemmas.List.{drop-append-le, take-append-le}
use Rattle.httparse.specs.Grammar.{print_end}
use Rattle.model_h1.specs.HeadPiece.{AreBlankLines, BeginsBlank, EndsBlank, IsHeadPiece, HasNoHeadPiece}
use Rattle.model_h1.proofs.HeadPieceLemmas.{slice_range-append}

-- a blank line that begins the first bytes begins them all
begins_more : (xs ys : List ℕ) → BeginsBlank xs → BeginsBlank (xs ++ ys)
begins_more xs ys x = (x.0, x.1 ++ ys, ap (λ (l : List ℕ). l ++ ys) x.2 ∙ append_assoc (print_end x.0) x.1 ys)

-- a head piece of all bytes that ends among the first is one of these
piece_front : (xs ys : List ℕ) (s e : ℕ) → IsHeadPiece (xs ++ ys) s e → e ≤ length xs → IsHeadPiece xs s e
piece_front xs ys s e x fits =
    let ordered = x.ordered in
    let same : slice_range (xs ++ ys) s e ≡ slice_range xs s e = slice_range-append xs ys s e x.ordered fits in
    record {
      ordered = x.ordered;
      in_range = fits;
      blank = subst AreBlankLines (take-append-le s xs ys (omega (arith, ordered))) x.blank;
      begins = λ b. x.begins (subst BeginsBlank (sym (drop-append-le s xs ys (omega (arith, ordered)))) (begins_more (drop s xs) ys b));
      ends = subst EndsBlank same x.ends;
      first = λ k after before b. x.first k after before (subst EndsBlank (sym (slice_range-append xs ys s k after (omega (arith, before)))) b);
    }

-- so where none is whole the bytes end before it does
pub head_late : (bytes more : List ℕ) (place s e : ℕ) → HasNoHeadPiece (drop place bytes) → IsHeadPiece (drop place (bytes ++ more)) s e → length bytes < place + e
head_late bytes more place s e none x =
    elim (cases_lt (length bytes) (place + e)) [
      | inl late ↦ late
      | inr early ↦
          let moved = subst (λ t. IsHeadPiece t s e) (drop-append-le place bytes more (omega arith)) x in
          absurd (none s e (piece_front (drop place bytes) more s e moved (omega (arith, length-drop place bytes))))
    ]
