-- Lists of which a fact holds at each element, and counts.
use Rattle.std.proofs.Common.{◌≡◌, ◌+◌, ℕ, List, [], ◌∷◌, ◌++◌, ap, sym, ◌∙◌, add-one}
use Rattle.std.specs.List.{AllByRecursion}
use Rattle.http_config.specs.Causes.{counted}
use Rattle.board_server.specs.Visits.{counted_on}

-- without the last one
pub all_fewer : {X : Type 0} (P : X → Type 0) (xs : List X) (x : X) → AllByRecursion P (xs ++ x ∷ []) → AllByRecursion P xs
all_fewer P [] x all = tt
all_fewer P (y ∷ xs) x all = (all.0, all_fewer P xs x all.1)

-- a count after one more
pub counted_more : (n before given now : ℕ) → before ≡ counted_on n given → now ≡ counted before → now ≡ counted_on (n + 1) given
counted_more n before given now was is = is ∙ ap counted was ∙ ap (λ (k : ℕ). counted_on k given) (sym (add-one n))
