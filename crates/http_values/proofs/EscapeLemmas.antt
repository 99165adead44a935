-- Two tests that agree on each number below a bound.
use Rattle.std.proofs.Common.{◌≡◌, ℕ, zero, suc, ◌<◌, Bool, true, false, ◌&&◌, refl, ap, ◌∙◌, arith, ◌⊎◌, inl, inr}

-- whether two answers are one
unfoldable pub same : Bool → Bool → Bool
same true b = b
same false true = false
same false false = true

same_is : (a b : Bool) → same a b ≡ true → a ≡ b
unfolding same
same_is true true h = refl
same_is true false h = cc (h)
same_is false true h = cc (h)
same_is false false h = refl

-- whether the test holds of each number below
unfoldable pub all_below : (ℕ → Bool) → ℕ → Bool
all_below test zero = true
all_below test (suc n) = test n && all_below test n

first_of_both : (a b : Bool) → (a && b) ≡ true → a ≡ true
first_of_both true b h = refl
first_of_both false b h = h

second_of_both : (a b : Bool) → (a && b) ≡ true → b ≡ true
second_of_both true b h = h
second_of_both false b h = cc (h)

last_or_below : (n b : ℕ) → b < suc n → (b ≡ n) ⊎ (b < n)
last_or_below n b h = grind arith

holds_below : (test : ℕ → Bool) (n b : ℕ) → all_below test n ≡ true → b < n → test b ≡ true
unfolding all_below
holds_below test zero b h small = absurd (omega (arith, small))
holds_below test (suc n) b h small = elim (last_or_below n b small) [
  | inl e ↦ ap test e ∙ first_of_both (test n) (all_below test n) h
  | inr below ↦ holds_below test n b (second_of_both (test n) (all_below test n) h) below
]

-- tests that agree by computing agree at each number below
pub agree_below : (f g : ℕ → Bool) (n : ℕ) → all_below (λ b. same (f b) (g b)) n ≡ true → (b : ℕ) → b < n → f b ≡ g b
agree_below f g n h b small = same_is (f b) (g b) (holds_below (λ b. same (f b) (g b)) n b h small)
