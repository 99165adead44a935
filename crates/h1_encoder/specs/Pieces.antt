-- A body in chunks, written piece by piece.
use Rattle.std.specs.Prelude.{ℕ, ◌^◌, ◌<◌, List, ◌++◌, length, flat_map}
use Rattle.std.specs.List.{AllByRecursion}
use Rattle.model_h1.specs.AnswerText.{chunk_text, last_chunk}

-- a piece has fewer than 2 ^ 64 bytes, as every slice
abbrev pub AreShort : List (List ℕ) → Type 0
AreShort pieces = AllByRecursion (λ (piece : List ℕ). length piece < 2 ^ 64) pieces

-- each piece has a byte
abbrev pub AreFilled : List (List ℕ) → Type 0
AreFilled pieces = AllByRecursion (λ (piece : List ℕ). 0 < length piece) pieces

-- the chunks of the pieces, and the last one
abbrev pub written : List (List ℕ) → List ℕ
written pieces = flat_map chunk_text pieces ++ last_chunk

-- the bytes of all pieces
abbrev pub joined : List (List ℕ) → List ℕ
joined pieces = flat_map (λ piece. piece) pieces
