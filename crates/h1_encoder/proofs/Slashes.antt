-- The slash of a path that isn't there.
use Rattle.std.proofs.Common.{◌≡◌, ℕ, ◌<◌, Bool, true, false, eqb, List, [], ◌∷◌, length, codes, refl, ap, arith}
use Rattle.std.proofs.lemmas.Bool.{eqb-true, cond-false}
use Rattle.http_uri.specs.Grammar.{or_slash, path_and_query_text}

-- a text that has a byte stays as it is
stays : (text : List ℕ) → 0 < length text → or_slash text ≡ text
stays text some = by_test (eqb (length text) 0) refl
  where
    by_test : (t : Bool) → eqb (length text) 0 ≡ t → or_slash text ≡ text
    by_test true none = absurd (omega (arith, eqb-true (length text) 0 none, some))
    by_test false is = cond-false (eqb (length text) 0) (codes "/") text is

-- the slash is put once
pub once : (text : List ℕ) → path_and_query_text (or_slash text) ≡ path_and_query_text text
once [] = refl
once (b ∷ rest) = ap path_and_query_text (stays (b ∷ rest) (omega arith))
