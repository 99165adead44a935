-- Values that are bodies: all their bytes are one chunk.
use Rattle.std.specs.Prelude.{◌≡◌, ℕ, true, false, Some, None, List, [], ◌∷◌, length, Ok}
use Rattle.futures.specs.declared.task.Poll.TheVariants.{Ready}
use Rattle.http_framing.specs.declared.body.size.BodySize.TheVariants as size
use Rattle.http_bodies.specs.Giving.{Given, chunk, Giving, Piece}

-- no bytes are no chunk
abbrev pub one_chunk : List ℕ → List Given
one_chunk [] = []
one_chunk (x ∷ xs) = chunk (x ∷ xs) ∷ []

-- a body that holds these bytes, and never fails, waits or takes memory
abbrev pub holds : List ℕ → Giving
holds bytes = record { size = size.Sized (length bytes); coming = Some (one_chunk bytes); takes_memory = false; faults = 0; waits = 0 }

-- the same of bytes whose allocation is still to be shared, which takes memory
abbrev pub holds_owned : List ℕ → Giving
holds_owned bytes = record (holds bytes) { takes_memory = true }

-- no body, of which no length is stated
abbrev pub holds_none : Giving
holds_none = record { size = size.None; coming = Some []; takes_memory = false; faults = 0; waits = 0 }

-- the answer of a value that needs no memory for its chunk
abbrev pub at_once : List ℕ → Piece
at_once [] = Ready None
at_once (x ∷ xs) = Ready (Some (Ok (x ∷ xs)))

-- where no bytes are left, it is at its end, and takes no memory to say so
abbrev pub EndsAtNone : List ℕ → Piece → Type 0
EndsAtNone bytes result = length bytes ≡ 0 → result ≡ Ready None
