-- What passing over a body in chunks says.
use Rattle.std.specs.Prelude.{◌≡◌, ◌⊎◌, ℕ, ◌<◌, ◌≤◌, List, [], length, drop}
use Rattle.model_h1.specs.Place.{Place, done, after}
use Rattle.model_h1.specs.Reading.{read}

-- from a place, some bytes of the list lead on to another, which reads the rest to the same end
pub record LeadsTo (place : Place) (bytes : List ℕ) (at next_at : ℕ) (next : Place) : Type 0 where
  pub some : at < next_at
  pub within : next_at ≤ length bytes
  pub ending : (read place (drop at bytes)).ending ≡ (read next (drop next_at bytes)).ending
  pub leads : after place (drop at bytes) ≡ after next (drop next_at bytes)

-- so many bytes were passed, and the place behind them is the body's end, or the one behind all bytes
pub record IsAllPassed (start : Place) (bytes : List ℕ) (at : ℕ) (place : Place) : Type 0 where
  pub within : at ≤ length bytes
  pub ending : (read start bytes).ending ≡ (read place (drop at bytes)).ending
  pub all : (place ≡ done) ⊎ ((place ≡ after start bytes) × (read place (drop at bytes) ≡ read place []))
