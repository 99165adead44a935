-- A limit of bytes, where there is one.
use Rattle.std.specs.Prelude.{ℕ, Bool, false, nat_lt, Option, Some, None}

-- so many bytes are too many
abbrev pub passes : ℕ → Option ℕ → Bool
passes n None = false
passes n (Some limit) = nat_lt limit n
