-- What a tick answers.
use Rattle.std.specs.Prelude.{◌≡◌, ℕ, ◌^◌, ◌⊎◌, false, nat_lt, if◌then◌else◌, Option, Some, None, IsSome, unwrap_or}
use Rattle.model_h1.specs.Setting.{Setting}
use Rattle.model_h1.specs.Event as on
use Rattle.model_state.specs.Kept.{Kept}
use Rattle.model_state.specs.Local.{closing_by}
use Rattle.model_state.specs.Clock.{is_slow}
use Rattle.h1_connection.specs.EventMeaning.{end_of}
use Rattle.h1_connection.specs.declared.connection.ticks.Expiry.{Expiry}
use Rattle.h1_connection.specs.declared.connection.ticks.Expiry.TheVariants as expiry

abbrev pub expiry_of : Expiry → on.Outcome
expiry_of expiry.None = on.done
expiry_of (expiry.Expired end) = on.expired (end_of end)
expiry_of expiry.Abandoned = on.abandoned

-- a moment, where it doesn't pass its type
abbrev pub clipped : Option ℕ → Option ℕ
clipped None = None
clipped (Some n) = if nat_lt n (2 ^ 64) then Some n else None

-- no head that doesn't come is answered by a tick at this moment
abbrev pub IsQuietTick : Setting → Kept → ℕ → Type 0
IsQuietTick setting k ms = IsSome (closing_by setting k) ⊎ (is_slow setting k (unwrap_or k.clock.first ms) ms ≡ false)
