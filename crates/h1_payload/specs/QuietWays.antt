-- Where the bytes between two chunks lead.
use Rattle.std.specs.Prelude.{◌≡◌, ℕ, ◌+◌, ◌≤◌, List, length, get_or, drop}
use Rattle.model_h1.specs.Place.{Place, after}
use Rattle.model_h1.specs.Reading.{read}
use Rattle.model_h1.specs.TakeNext.{take_next}

-- the bytes from an index up to another are none of a chunk or of a trailer line, and lead on to a place from which all
-- goes on as before: what comes next, how the body ends, and where all bytes lead
pub record LeadsQuietly (start : Place) (bytes : List ℕ) (from at : ℕ) (place : Place) : Type 0 where
  pub within : at ≤ length bytes
  pub same : take_next start (drop from bytes) ≡ take_next place (drop at bytes)
  pub ending : (read start (drop from bytes)).ending ≡ (read place (drop at bytes)).ending
  pub leads : after start (drop from bytes) ≡ after place (drop at bytes)

-- CR LF stands at an index
abbrev pub HasLineEnd : List ℕ → ℕ → Type 0
HasLineEnd bytes at = (at + 2 ≤ length bytes) × (get_or bytes at 0 ≡ 13) × (get_or bytes (at + 1) 0 ≡ 10)
