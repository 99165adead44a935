-- The head piece of a buffer, and what a scan may pass over.
use Rattle.std.proofs.Common.{◌≡◌, ℕ, zero, suc, ◌+◌, ◌-◌, ◌<◌, ◌≤◌, max, List, ◌++◌, length, take, drop, slice_range, inl, inr, sym, ap, ◌∙◌, subst, arith, append_assoc, length-append, le_refl}
use Rattle.std.proofs.lemmas.Bool.{cases_lt}
use Rattle.std.proofs.lemmas.List.{take_all, take-append-le, take-take, take-append-drop, drop-append-le, length-take-le}
use Rattle.std.proofs.lemmas.Slice.{between_is}
use Rattle.httparse.specs.Grammar.{print_end}
use Rattle.model_h1.specs.HeadPiece.{AreBlankLines, BeginsBlank, EndsBlank, IsHeadPiece, HasNoHeadPiece}
use Rattle.h1_decoder.specs.declared.scan.HeadScan.{HeadScan}
use Rattle.h1_decoder.specs.declared.scan.HeadScan.TheVariants.{Open, Piece}
use Rattle.h1_decoder.specs.HeadPosition.{HeadPosition, HasScanned}
use Rattle.h1_decoder.specs.HeadScan.{AnswersScan}
use Rattle.h1_decoder.specs.LineEnds.{HasEnd, HasNoEnd, IsFirstEnd}
use Rattle.model_h1.proofs.HeadPieceLemmas.{start_unique, head_piece_unique}
use Rattle.h1_decoder.proofs.LineEndLemmas.{EndsBlank-at, EndsBlank-of, line_end_after, line_end_near}

-- the answer of a scan is the head, wherever there is one
pub AnswersScan-found : (bytes : List ℕ) (answer : HeadScan) → AnswersScan bytes answer → (s e : ℕ) → IsHeadPiece bytes s e → answer ≡ Piece s e
AnswersScan-found bytes Open none s e piece = absurd (none s e piece)
AnswersScan-found bytes (Piece s' e') piece' s e piece =
    let same = head_piece_unique bytes s' e' s e piece' piece in
    let at_start : s' ≡ s = same.0 in
    let at_end : e' ≡ e = same.1 in
    ap (λ x. Piece x e') at_start ∙ ap (λ x. Piece s x) at_end

-- where all bytes were scanned, they hold no head
pub no_head_in_all : (position : HeadPosition) (bytes : List ℕ) → position.scanned ≡ length bytes → HasScanned position bytes → HasNoHeadPiece bytes
no_head_in_all position bytes all has =
    subst HasNoHeadPiece (ap (λ (n : ℕ). take n bytes) all ∙ take_all (length bytes) bytes (le_refl (length bytes))) has.no_head

-- nothing ends among the bytes that were scanned
module _ (bytes : List ℕ) (s n : ℕ) (fits : n ≤ length bytes) (none : HasNoHeadPiece (take n bytes))
    (blank : AreBlankLines (take s bytes)) (begins : ¬ (BeginsBlank (drop s bytes))) where
  front_begins : s ≤ n → BeginsBlank (drop s (take n bytes)) → BeginsBlank (drop s bytes)
  front_begins le (end, rest, is) =
      let long : s ≤ length (take n bytes) = omega (arith, length-take-le n bytes fits) in (
        end,
        rest ++ drop n bytes,
        ap (drop s) (sym (take-append-drop n bytes)) ∙ drop-append-le s (take n bytes) (drop n bytes) long
            ∙ ap (λ xs. xs ++ drop n bytes) is ∙ append_assoc (print_end end) rest (drop n bytes),
      )

  same_part : (e : ℕ) → e ≤ n → slice_range (take n bytes) s e ≡ slice_range bytes s e
  same_part e le = between_is (take n bytes) s e ∙ ap (drop s) (take-take e n bytes le) ∙ sym (between_is bytes s e)

  none_below : (k e : ℕ) → e < k → s ≤ e → e ≤ n → ¬ (EndsBlank (slice_range bytes s e))
  none_below zero e lt low le ends = absurd (omega arith)
  none_below (suc k) e lt low le ends =
      none s e (record {
        ordered = low;
        in_range = omega (arith, length-take-le n bytes fits);
        blank = subst AreBlankLines (sym (take-take s n bytes (omega arith))) blank;
        begins = λ b. begins (front_begins (omega arith) b);
        ends = subst EndsBlank (sym (same_part e le)) ends;
        first = λ e' low' lt' ends'. none_below k e' (omega arith) low' (omega arith) (subst EndsBlank (same_part e' (omega arith)) ends');
      })

  -- an empty line that ends behind the old bytes follows a line feed from that place on
  ends_late : (from e : ℕ) → from ≤ max s (n - 2) → s ≤ e → e ≤ length bytes → EndsBlank (slice_range bytes s e) → HasEnd bytes from e
  ends_late from e high low within ends =
      elim (cases_lt n e) [
        | inl late ↦
            let (p, p_low, empty) = EndsBlank-at bytes s e low within ends in
            (p, omega (arith, line_end_near bytes (p + 1) e empty.line), empty)
        | inr early ↦ absurd (none_below (e + 1) e (omega arith) low early ends)
      ]

  -- the first end from that place on is the end of the head
  pub first_end_is_piece : (from e : ℕ) → s ≤ from → from ≤ max s (n - 2) → IsFirstEnd bytes from e → IsHeadPiece bytes s e
  first_end_is_piece from e low high found =
      let (p, p_low, empty) = found.here in
      let after : p + 1 < e = line_end_after bytes (p + 1) e empty.line in
      let within : e ≤ length bytes = empty.line.in_range in
      record {
        ordered = omega arith;
        in_range = within;
        blank = blank;
        begins = begins;
        ends = EndsBlank-of bytes s e (p, omega arith, empty);
        first = λ e' low' less ends. found.first e' less (ends_late from e' high low' (omega arith) ends);
      }

  -- with no end from that place on there is no head
  pub no_end_no_piece : (from : ℕ) → s ≤ length bytes → from ≤ max s (n - 2) → HasNoEnd bytes from → HasNoHeadPiece bytes
  no_end_no_piece from s_fits high no_end s' e piece =
      let same : s' ≡ s = start_unique bytes s' s (omega (arith, piece.ordered, piece.in_range)) s_fits piece.blank blank piece.begins begins in
      no_end e (ends_late from e high (omega (arith, piece.ordered)) piece.in_range (subst (λ (k : ℕ). EndsBlank (slice_range bytes k e)) same piece.ends))

-- a position stays one when bytes follow
pub HasScanned-append : (position : HeadPosition) (bytes more : List ℕ) → HasScanned position bytes → HasScanned position (bytes ++ more)
HasScanned-append position bytes more has =
    let fits : position.start ≤ length bytes = omega (arith, has.ordered, has.in_range) in
    record {
      ordered = has.ordered;
      in_range = omega (arith, has.in_range, length-append bytes more);
      blank = subst AreBlankLines (sym (take-append-le position.start bytes more fits)) has.blank;
      no_head = subst HasNoHeadPiece (sym (take-append-le position.scanned bytes more has.in_range)) has.no_head;
    }
