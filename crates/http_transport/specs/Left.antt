-- The pieces that a transport in memory has left.
use Rattle.std.specs.Prelude.{◌≡◌, ◌<◌, ℕ, List, [], ◌∷◌, length, take, drop, min}
use Rattle.http_transport.specs.LeftAfter.{left_after}
use Rattle.http_transport.specs.declared.mem_transport.pieces.Front.{Front}
use Rattle.http_transport.specs.declared.mem_transport.pieces.Front.TheVariants.{Empty, Moved}
use Rattle.http_transport.specs.declared.mem_transport.pieces.Front.TheVariants as front

-- Bytes of the first piece go to the front of the buffer, as many as fit. An empty piece is passed.
abbrev pub Gives : List (List ℕ) → List (List ℕ) → List ℕ → Front → Type 0
Gives old new buf front.None = (old ≡ []) × (new ≡ [])
Gives old new buf Empty = old ≡ [] ∷ new
Gives old new buf (Moved n) =
    (piece : List ℕ) × (more : List (List ℕ)) × (old ≡ piece ∷ more) × (0 < length piece) × (n ≡ min (length buf) (length piece))
    × (take n buf ≡ take n piece) × (new ≡ left_after (drop n piece) more)
