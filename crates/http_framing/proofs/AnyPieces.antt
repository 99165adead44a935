-- The calls of a decoder are one.
use Rattle.std.proofs.Common.{◌≡◌, ℕ, List, [], ◌∷◌, ◌++◌, sym, ap, ◌∙◌, subst, append_assoc}
use Rattle.http_framing.specs.AnyPieces.{Fed, AreFed, LastReads, all_told, all_came}

-- pieces, put together in another way
regrouped : (a b c z : List ℕ) → (a ++ b) ++ (c ++ z) ≡ a ++ ((b ++ c) ++ z)
regrouped a b c z = append_assoc a b (c ++ z) ∙ ap (λ l. a ++ l) (sym (append_assoc b c z))

module _ {D I R : Type 0} (reads : D → List ℕ → R → Type 0) (given : I → R → R) where
  -- what is read behind the last call is, with all answers in front, what the first decoder reads
  pub pieces_are_whole : (d : D) (left : List ℕ) (calls : List (Fed D I)) (z : List ℕ) (r : R) → AreFed reads given d left calls
      → LastReads reads given d left calls z r → reads d (left ++ (all_came calls ++ z)) (all_told reads given calls r)
  pieces_are_whole d left [] z r fed last = last
  pieces_are_whole d left (c ∷ calls) z r fed last =
      subst (λ l. reads d l (all_told reads given (c ∷ calls) r)) (regrouped left c.came (all_came calls) z)
      (fed.0 (all_came calls ++ z) (all_told reads given calls r) (pieces_are_whole c.decoder c.rest calls z r fed.1 last))
