-- The first segment of bytes whose runs stand in order.
use Rattle.std.proofs.Common.{◌≡◌, ℕ, ◌<◌, ◌≤◌, Bool, true, false, List, [], ◌∷◌, length, take, All, refl, ap, arith}
use Rattle.std.specs.Prelude.{◌==◌, if◌then◌else◌}
use Rattle.std.proofs.lemmas.Bool.Decides.{nat_tests}
use Rattle.std.proofs.lemmas.List.{length-take-le}
use Rattle.std.proofs.lemmas.List.Elements.{All-nil, All-head, All-tail, All-cons}
use Rattle.model_h1.specs.Runs.{Run}
use Rattle.model_state.specs.Runs.{first_segment, AreInOrder, IsFirstSegment}

implied : (P Q : Run → Type 0) → ((r : Run) → P r → Q r) → (rs : List Run) → All P rs → All Q rs
implied P Q leads [] all = All-nil Q
implied P Q leads (r ∷ rs) all = All-cons Q r rs (leads r (All-head P r rs all)) (implied P Q leads rs (All-tail P r rs all))

-- no run starts before the first place
pub starts_from : (p q : ℕ) (rs : List Run) → AreInOrder p q rs → All (λ (r : Run). p ≤ r.start) rs
starts_from p q [] are = All-nil (λ (r : Run). p ≤ r.start)
starts_from p q (r ∷ rs) are =
    All-cons (λ (r : Run). p ≤ r.start) r rs are.0 (sooner rs (starts_from r.end q rs are.2))
  where
    sooner : (xs : List Run) → All (λ (x : Run). r.end ≤ x.start) xs → All (λ (x : Run). p ≤ x.start) xs
    sooner xs all = implied (λ (x : Run). r.end ≤ x.start) (λ (x : Run). p ≤ x.start) (λ x later. omega (arith, later, are.0, are.1)) xs all

module _ (r : Run) (rs : List Run) (bytes : List ℕ) (are : AreInOrder 0 (length bytes) (r ∷ rs)) where
  others : All (λ (x : Run). r.end ≤ x.start) rs
  others = starts_from r.end (length bytes) rs are.2

  fits : (q : ℕ) (xs : List Run) → AreInOrder r.end q xs → r.end ≤ q
  fits q xs more = last r.end q xs more
    where
      last : (p q : ℕ) (xs : List Run) → AreInOrder p q xs → p ≤ q
      last p q [] more = more
      last p q (x ∷ xs) more = omega (arith, more.0, more.1, last x.end q xs more.2)

  end_fits : r.end ≤ length bytes
  end_fits = fits (length bytes) rs are.2

  -- a piece stands first
  piece_first : r.start ≡ 0 → IsFirstSegment (r ∷ rs) bytes (take r.end bytes)
  piece_first zero =
      let size = length-take-le r.end bytes end_fits in
      record {
        begins = ap (λ n. take n bytes) size;
        some = λ some. omega (arith, size, are.1);
        piece =
            All-cons (λ (x : Run). x.start ≡ 0 → take r.end bytes ≡ take x.end bytes) r rs (λ first. refl)
            (implied (λ (x : Run). r.end ≤ x.start) (λ (x : Run). x.start ≡ 0 → take r.end bytes ≡ take x.end bytes) (λ x later none. absurd (omega (arith, later, none, are.1))) rs others);
        framing = λ behind. absurd (omega (arith, zero, All-head (λ (x : Run). 0 < x.start) r rs behind));
      }

  -- framing or a text does
  text_first : 0 < r.start → IsFirstSegment (r ∷ rs) bytes (take r.start bytes)
  text_first some =
      let size = length-take-le r.start bytes (omega (arith, are.1, end_fits)) in
      record {
        begins = ap (λ n. take n bytes) size;
        some = λ more. omega (arith, size, some);
        piece =
            All-cons (λ (x : Run). x.start ≡ 0 → take r.start bytes ≡ take x.end bytes) r rs (λ none. absurd (omega (arith, none, some)))
            (implied (λ (x : Run). r.end ≤ x.start) (λ (x : Run). x.start ≡ 0 → take r.start bytes ≡ take x.end bytes) (λ x later none. absurd (omega (arith, later, none, are.1))) rs others);
        framing = λ behind.
            All-cons (λ (x : Run). length (take r.start bytes) ≤ x.start) r rs (omega (arith, size))
            (implied (λ (x : Run). r.end ≤ x.start) (λ (x : Run). length (take r.start bytes) ≤ x.start) (λ x later. omega (arith, later, size, are.1)) rs others);
      }

  either : IsFirstSegment (r ∷ rs) bytes (first_segment (r ∷ rs) bytes)
  either = by_test (r.start == 0) refl
    where
      by_test : (t : Bool) → (r.start == 0) ≡ t → IsFirstSegment (r ∷ rs) bytes (take (if t then r.end else r.start) bytes)
      by_test true is = piece_first (grind (arith, nat_tests))
      by_test false is = text_first (grind (arith, nat_tests))

pub first_is : (runs : List Run) (bytes : List ℕ) → AreInOrder 0 (length bytes) runs → IsFirstSegment runs bytes (first_segment runs bytes)
first_is [] bytes are =
    let size = length-take-le (length bytes) bytes (omega arith) in
    record {
      begins = ap (λ n. take n bytes) size;
      some = λ some. omega (arith, size, some);
      piece = All-nil (λ (r : Run). r.start ≡ 0 → take (length bytes) bytes ≡ take r.end bytes);
      framing = λ none. All-nil (λ (r : Run). length (take (length bytes) bytes) ≤ r.start);
    }
first_is (r ∷ rs) bytes are = either r rs bytes are
