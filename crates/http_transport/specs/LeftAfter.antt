-- What is left of pieces of bytes.
use Rattle.std.specs.Prelude.{ℕ, List, [], ◌∷◌}

-- what is left of the first piece, in front of the others: once that is nothing, the others
abbrev pub left_after : List ℕ → List (List ℕ) → List (List ℕ)
left_after [] more = more
left_after (b ∷ bytes) more = (b ∷ bytes) ∷ more
