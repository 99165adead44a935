-- Names of counters.
use Rattle.std.specs.Prelude.{ℕ, List, ◌≡◌, ◌<◌, ◌≤◌, ◌-◌, ◌++◌, length, take, drop, replicate}
use Rattle.std.proofs.Common.{ap, sym, subst, ◌∙◌}
use Rattle.std.proofs.lemmas.List.{take-append-drop, length-take-le}

-- these bytes are a name
abbrev pub IsName : List ℕ → Type 0
IsName bytes = (0 < length bytes) × (length bytes ≤ 64)

-- a place of 64 bytes is its first bytes with zeros after them, and these are as many
pub take_and_pad : (len : ℕ) (bytes : List ℕ) → len ≤ 64 → length bytes ≡ 64 → drop len bytes ≡ replicate (64 - len) 0
    → (take len bytes ++ replicate (64 - length (take len bytes)) 0 ≡ bytes) × (length (take len bytes) ≡ len)
take_and_pad len bytes most whole zeros =
    let count : length (take len bytes) ≡ len = length-take-le len bytes (subst (λ n. len ≤ n) (sym whole) most) in (
      ap (λ n. take len bytes ++ replicate (64 - n) 0) count ∙ ap (λ rest. take len bytes ++ rest) (sym zeros) ∙ take-append-drop len bytes,
      count,
    )
