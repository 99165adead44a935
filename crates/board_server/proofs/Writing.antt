-- Bytes that are written in pieces.
use Rattle.std.proofs.Common.{◌≡◌, ℕ, Option, List, ◌++◌, take, drop, sym, ap, ◌∙◌, append_assoc, take-append-drop}
use Rattle.std.specs.Io.KnownBytes.{Appends}
use Rattle.std.proofs.KnownBytes.{Appends-trans}

pub written_more : (a b c : Option (List ℕ)) (n : ℕ) (rest bytes : List ℕ) (w : (front : List ℕ) × (bytes ≡ front ++ rest) × Appends a b front) → Appends b c (take n rest)
    → (front : List ℕ) × (bytes ≡ front ++ drop n rest) × Appends a c front
written_more a b c n rest bytes w then_ = (
  w.0 ++ take n rest,
  w.1 ∙ ap (λ (l : List ℕ). w.0 ++ l) (sym (take-append-drop n rest)) ∙ sym (append_assoc w.0 (take n rest) (drop n rest)),
  Appends-trans a b c w.0 (take n rest) w.2 then_,
)
