use Rattle.std.proofs.Common.{◌≡◌, ℕ, List, [], ◌∷◌, ◌++◌, map, true, false, refl, subst, sym, arith, codes}
use Rattle.model_h1.specs.Handed.{Item, item_bytes, item_end}
use Rattle.model_ends.specs.HandedBody.{IsStop}
use Rattle.model_ends.proofs.examples.bodies.Goals as goal

pub returns-clause-whole : goal.returns-clause-whole
returns-clause-whole c = record {
  pieces = codes "h" ∷ codes "i" ∷ [];
  last = item_end ∷ [];
  are = refl;
  some = (omega arith, (omega arith, tt));
  begins = ([], refl);
  stops = (refl, refl);
}

pub returns-clause-begun : goal.returns-clause-begun
returns-clause-begun c = record {
  pieces = codes "h" ∷ [];
  last = [];
  are = refl;
  some = (omega arith, tt);
  begins = (codes "i", refl);
  stops = tt;
}

-- where an end stands in front there are no pieces
no_pieces : (rest last : List Item) (pieces : List (List ℕ)) → item_end ∷ rest ≡ map item_bytes pieces ++ last → item_end ∷ rest ≡ last
no_pieces rest last [] is = is
no_pieces rest last (p ∷ pieces) is = let no : item_end ≡ item_bytes p = cc in absurd (cc no)

pub returns-clause-no_second_end : goal.returns-clause-no_second_end
returns-clause-no_second_end c = λ x.
    subst (λ (l : List Item). IsStop false true [] x.pieces l) (sym (no_pieces (item_end ∷ []) x.last x.pieces x.are)) x.stops

pub returns-clause-no_early_end : goal.returns-clause-no_early_end
returns-clause-no_early_end c = λ x.
    subst (λ (l : List Item). IsStop false true (codes "hi") x.pieces l) (sym (no_pieces (item_bytes (codes "hi") ∷ []) x.last x.pieces x.are)) x.stops
