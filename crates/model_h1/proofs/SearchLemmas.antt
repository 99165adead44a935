-- The first number below a bound that passes a test.
use Rattle.std.proofs.Common.{◌≡◌, ℕ, zero, suc, ◌<◌, ◌⊎◌, Bool, true, false, sym, subst, inl, inr, arith}
use Rattle.std.proofs.lemmas.Bool.{cases_eq, cases_Bool}

-- none below the bound passes
abbrev pub NoneBelow : (ℕ → Bool) → ℕ → Type 0
NoneBelow test n = (k : ℕ) → k < n → test k ≡ false

-- the first that passes is below the bound
pub record FirstBelow (test : ℕ → Bool) (n : ℕ) : Type 0 where
  pub place : ℕ
  pub below : place < n
  pub passes : test place ≡ true
  pub none : NoneBelow test place

-- one more that fails
none_more : (test : ℕ → Bool) (n : ℕ) → NoneBelow test n → test n ≡ false → NoneBelow test (suc n)
none_more test n none here k lt =
    elim (cases_eq k n) [
      | inl same ↦ subst (λ m. test m ≡ false) (sym same) here
      | inr other ↦ none k (omega arith)
    ]

-- a search from 0 decides it
pub first_below : (test : ℕ → Bool) (n : ℕ) → NoneBelow test n ⊎ FirstBelow test n
first_below test zero = inl (λ k lt. absurd (omega arith))
first_below test (suc n) =
    elim (first_below test n) [
      | inl none ↦ elim (cases_Bool (test n)) [
        | inl passes ↦ inr (record { place = n; below = omega arith; passes = passes; none = none })
        | inr here ↦ inl (none_more test n none here)
      ]
      | inr f ↦ inr (record { place = f.place; below = omega (arith, f.below); passes = f.passes; none = f.none })
    ]
