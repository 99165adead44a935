-- A text cut at each occurrence of a byte.
use Rattle.std.specs.Prelude.{ℕ, ◌==◌, List, [], ◌∷◌, Option, Some, None}
use Rattle.std.specs.List.{slice_split}

-- the pieces of what stands behind a mark, none where there was no mark
abbrev pub pieces_left : ℕ → Option (List ℕ) → List (List ℕ)
pieces_left mark None = []
pieces_left mark (Some rest) = slice_split (λ b. b == mark) rest

-- the piece of a list of one
abbrev pub only_of : List (List ℕ) → Option (List ℕ)
only_of [] = None
only_of (piece ∷ []) = Some piece
only_of (piece ∷ other ∷ more) = None
