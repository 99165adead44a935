-- The codes of a connection that is opened.
use Rattle.std.proofs.Common.{◌≡◌, ◌⊎◌, ◌↔◌, ℕ, true, false, inl, inr, arith}

pub known_of : (Never : Type 0) (code : ℕ) → ((code ≡ 1) × (Never → ⊥)) ⊎ ((code ≡ 3) × Never) → (code ≡ 0) ⊎ ((code ≡ 1) ⊎ (code ≡ 3))
known_of Never code (inl w) = inr (inl w.0)
known_of Never code (inr w) = inr (inr w.0)

pub invalid_of : (Never : Type 0) (code : ℕ) → ((code ≡ 1) × (Never → ⊥)) ⊎ ((code ≡ 3) × Never) → code ≡ 3 ↔ Never
invalid_of Never code (inl w) = (λ three. absurd (omega (arith, w.0)), λ never. absurd (w.1 never))
invalid_of Never code (inr w) = (λ three. w.1, λ never. w.0)

pub is_some_none : true ≡ false → ⊥
is_some_none e = cc
