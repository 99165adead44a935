-- How much a trace adds to one before it, at most.
use Rattle.std.proofs.Common.{◌≡◌, ℕ, ◌+◌, ◌*◌, ◌≤◌, List, [], ◌∷◌, ◌++◌, length, arith, length-append}
use Rattle.std.specs.Prelude.{sum_by}
use Rattle.std.proofs.lemmas.List.Sums.{sum_by-cons}
use Rattle.model_h1.specs.Sums.{Step, step_taken, taken, step_written, written}
use Rattle.model_h1.specs.Past.{step_bytes}

-- so many bytes for each of so many exchanges
pub record Adds (trace before : List Step) (count : ℕ) : Type 0 where
  pub taken_adds : length (taken trace) ≤ length (taken before) + 2000 * count
  pub body_adds : sum_by (λ s. step_bytes s.outcome) trace ≤ sum_by (λ s. step_bytes s.outcome) before + 2000 * count
  pub written_adds : length (written trace) ≤ length (written before) + 2000 * count

-- the bytes taken are the sum of the steps'
pub taken-append : (more before : List Step)
    → length (taken (more ++ before)) ≡ length (taken before) + sum_by (λ s. length (step_taken s.event s.outcome)) more
unfolding taken
taken-append [] before = omega arith
taken-append (s ∷ more) before =
    omega (
      arith,
      length-append (taken (more ++ before)) (step_taken s.event s.outcome),
      taken-append more before,
      sum_by-cons (λ s. length (step_taken s.event s.outcome)) s more,
    )

-- and so are those written
pub written-append : (more before : List Step)
    → length (written (more ++ before)) ≡ length (written before) + sum_by (λ s. length (step_written s.outcome)) more
unfolding written
written-append [] before = omega arith
written-append (s ∷ more) before =
    omega (
      arith,
      length-append (written (more ++ before)) (step_written s.outcome),
      written-append more before,
      sum_by-cons (λ s. length (step_written s.outcome)) s more,
    )
