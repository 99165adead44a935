-- Headers that are put together by their names are those that were there.
use Rattle.std.proofs.Common.{◌≡◌, ℕ, Bool, true, false, List, [], ◌∷◌, ◌++◌, flat_map, cond}
use Rattle.std.specs.Prelude.{bytes_eq, fold}
use Rattle.std.specs.List.{AllByRecursion}
use Rattle.model_h1.specs.Request.{Header}
use Rattle.model_h1.specs.AnswerText.{appended, by_name}

-- a fact of the elements of both parts is one of all
pub all_both : {A : Type 0} (P : A → Type 0) (xs ys : List A) → AllByRecursion P xs → AllByRecursion P ys → AllByRecursion P (xs ++ ys)
all_both P [] ys a b = b
all_both P (x ∷ xs) ys a b = (a.0, all_both P xs ys a.1 b)

module _ (P : Header → Type 0) where
  -- of each header of each group
  abbrev pub AllGroups : List (List Header) → Type 0
  AllGroups groups = AllByRecursion (λ (g : List Header). AllByRecursion P g) groups

  -- a further header of which it holds
  pub appended_all : (groups : List (List Header)) (h : Header) → AllGroups groups → P h → AllGroups (appended groups h)
  unfolding appended
  appended_all [] h all here = ((here, tt), tt)
  appended_all ([] ∷ groups) h all here = (tt, appended_all groups h all.1 here)
  appended_all ((g ∷ gs) ∷ groups) h all here = by_test (bytes_eq g.name h.name) (appended_all groups h all.1 here)
    where
      by_test : (t : Bool) → AllGroups (appended groups h) → AllGroups (cond t ((g ∷ (gs ++ h ∷ [])) ∷ groups) ((g ∷ gs) ∷ appended groups h))
      by_test true others = ((all.0.0, all_both P gs (h ∷ []) all.0.1 (here, tt)), all.1)
      by_test false others = (all.0, others)

  -- headers one after another
  folded_all : (hs : List Header) (groups : List (List Header)) → AllGroups groups → AllByRecursion P hs → AllGroups (fold appended groups hs)
  folded_all [] groups all here = all
  folded_all (h ∷ hs) groups all here = folded_all hs (appended groups h) (appended_all groups h all here.0) here.1

  -- all groups, one after another
  pub flat_all : (groups : List (List Header)) → AllGroups groups → AllByRecursion P (flat_map (λ group. group) groups)
  flat_all [] all = tt
  flat_all (g ∷ groups) all = all_both P g (flat_map (λ group. group) groups) all.0 (flat_all groups all.1)

  -- what holds of each header holds of each, name by name
  pub by_name_all : (hs : List Header) → AllByRecursion P hs → AllByRecursion P (by_name hs)
  by_name_all hs all = flat_all (fold appended [] hs) (folded_all hs [] tt all)

-- no header has the name
abbrev pub IsOther : List ℕ → Header → Type 0
IsOther name h = bytes_eq h.name name ≡ false
