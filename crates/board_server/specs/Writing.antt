-- What is written.
use Rattle.std.specs.Prelude.{◌≡◌, ◌⊎◌, ℕ, Option, List}
use Rattle.std.specs.Io.KnownBytes.{Appends}
use Rattle.http_config.specs.Causes.{Rose}

-- The text was written whole, and this is the status; or the sink failed, and the status is 5.
abbrev pub Says : ℕ → ℕ → List ℕ → Option (List ℕ) → Option (List ℕ) → ℕ → ℕ → Type 0
Says answer status text before after faults later =
    ((answer ≡ status) × Appends before after text) ⊎ ((answer ≡ 5) × Rose faults later)
