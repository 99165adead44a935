-- Places of body bytes among bytes that wait to be written, and the first segment of these. A segment is all that is left
-- of one piece of a body, or what stands in front of the next piece.
use Rattle.std.specs.Prelude.{◌≡◌, ℕ, ◌-◌, ◌<◌, ◌≤◌, List, [], ◌∷◌, length, take, nat_lt, ◌==◌, if◌then◌else◌, All}
use Rattle.model_h1.specs.Runs.{Run}

-- the runs from a place on, with that place as the first; those before it are left out
unfoldable pub runs_behind : ℕ → List Run → List Run
runs_behind n [] = []
runs_behind n (r ∷ rs) =
    if nat_lt n r.end then record { start = r.start - n; end = r.end - n } ∷ runs_behind n rs else runs_behind n rs

-- How far the first segment reaches: over all that is left of a piece where one stands first, and else up to the first piece.
abbrev pub front_len : List Run → ℕ → ℕ
front_len [] all = all
front_len (r ∷ rs) all = if r.start == 0 then r.end else r.start

-- the first segment of these bytes
abbrev pub first_segment : List Run → List ℕ → List ℕ
first_segment runs bytes = take (front_len runs (length bytes)) bytes

-- The runs stand in order and apart between two places, and each has some bytes.
abbrev pub AreInOrder : ℕ → ℕ → List Run → Type 0
AreInOrder from to [] = from ≤ to
AreInOrder from to (r ∷ rs) = (from ≤ r.start) × (r.start < r.end) × AreInOrder r.end to rs

-- What is meant by the first segment: it begins the bytes, and is empty only where they are. Where the first byte is a
-- piece's, it is all the bytes that are left of that piece; else it has no byte of any piece.
pub record IsFirstSegment (runs : List Run) (bytes front : List ℕ) : Type 0 where
  pub begins : take (length front) bytes ≡ front
  pub some : 0 < length bytes → 0 < length front
  pub piece : All (λ r. r.start ≡ 0 → front ≡ take r.end bytes) runs
  pub framing : All (λ r. 0 < r.start) runs → All (λ r. length front ≤ r.start) runs
