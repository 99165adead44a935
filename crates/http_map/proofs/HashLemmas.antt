-- The turn of the loop that feeds a text in lower case to a hasher.
use Rattle.std.proofs.Common.{◌≡◌, ℕ, zero, suc, ◌+◌, ◌<◌, List, [], ◌∷◌, take, length, get_or, refl, arith, add-one}
use Rattle.std.specs.List.{fold, flat_map}
use Rattle.std.specs.Hash as fed
use Rattle.std.specs.Char.{to_ascii_lowercase}
use Rattle.http_header.specs.Token.{lowercase}

module _ {S : Type 0} (write : S → List ℕ → S) where
  fed_next : (s : S) (xs : List ℕ) (i : ℕ) → i < length xs → fold write s (flat_map fed.u8 (lowercase (take (suc i) xs))) ≡ write (fold write s (flat_map fed.u8 (lowercase (take i xs)))) (to_ascii_lowercase (get_or xs i 0) ∷ [])
  fed_next s [] i h = absurd (omega arith)
  fed_next s (y ∷ ys) zero h = refl
  fed_next s (y ∷ ys) (suc i) h = fed_next (write s (to_ascii_lowercase y ∷ [])) ys i (omega arith)

  -- one more byte is fed
  pub fed_more : (s : S) (xs : List ℕ) (i : ℕ) → i < length xs → fold write s (flat_map fed.u8 (lowercase (take (i + 1) xs))) ≡ write (fold write s (flat_map fed.u8 (lowercase (take i xs)))) (to_ascii_lowercase (get_or xs i 0) ∷ [])
  fed_more s xs i h = rw add-one (fed_next s xs i h)
