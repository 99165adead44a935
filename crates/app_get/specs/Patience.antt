-- For how long nothing may move.
use Rattle.std.specs.Prelude.{ℕ, ◌-◌, nat_lt, if◌then◌else◌, Result, Ok, Err}
use Rattle.app_get.specs.declared.error.GetError.{GetError}
use Rattle.app_get.specs.declared.error.GetError.TheVariants as get_error

-- how long is still waited where nothing has moved since a moment: it is too late once so much time has passed
abbrev pub left_of : ℕ → ℕ → ℕ → Result ℕ GetError
left_of wait since now = if nat_lt 0 (wait - (now - since)) then Ok (wait - (now - since)) else Err get_error.Late
