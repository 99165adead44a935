-- A counter that was raised.
use Rattle.std.proofs.Common.{◌≡◌, ℕ, ◌+◌, List, Bool, true, false, Option, Some, refl, ap, ◌∙◌, arith, cond}
use Rattle.std.specs.Prelude.{if◌then◌else◌}
use Rattle.std.specs.Option.{unwrap_or}
use Rattle.std.specs.Ordering.{is_eq, nat_cmp}
use Rattle.std.specs.Cmp.Lexicographic.{slice_cmp}
use Rattle.std.specs.Str.{bytes_eq}
use Rattle.std.proofs.lemmas.Map.Text.{is_eq-slice_cmp}
use Rattle.std.proofs.lemmas.Slice.Eq.{bytes_eq-Decides}

raised_by : (f g : List ℕ → Option ℕ) (key q : List ℕ) (count : ℕ) → count ≡ unwrap_or (f key) 0 → (b : Bool) → bytes_eq key q ≡ b → g q ≡ cond b (Some (count + 1)) (f q)
    → unwrap_or (g q) 0 ≡ unwrap_or (f q) 0 + (if b then 1 else 0)
raised_by f g key q count is true same now =
    ap (λ o. unwrap_or o 0) now ∙ ap (λ n. n + 1) (is ∙ ap (λ k. unwrap_or (f k) 0) ((bytes_eq-Decides key q).0 same))
raised_by f g key q count is false same now = omega (arith, ap (λ o. unwrap_or o 0) now)

-- where the counter of one name was raised, the others are as they were
pub raised : (f g : List ℕ → Option ℕ) (key : List ℕ) (count : ℕ) → count ≡ unwrap_or (f key) 0 → ((q : List ℕ) → g q ≡ cond (is_eq (slice_cmp nat_cmp key q)) (Some (count + 1)) (f q))
    → (q : List ℕ) → unwrap_or (g q) 0 ≡ unwrap_or (f q) 0 + (if bytes_eq key q then 1 else 0)
raised f g key count is now q = raised_by f g key q count is (bytes_eq key q) refl (now q ∙ ap (λ t. cond t (Some (count + 1)) (f q)) (is_eq-slice_cmp key q))
