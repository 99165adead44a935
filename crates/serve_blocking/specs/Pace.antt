-- Whether bytes move fast enough.
use Rattle.std.specs.Prelude.{ℕ, ◌-◌, ◌^◌, Bool, ◌&&◌, nat_le, nat_lt, if◌then◌else◌}
use Rattle.serve_blocking.specs.declared.pace.Pace.{Pace}

-- the most milliseconds, and the most bytes, that are counted
abbrev pub longest : ℕ
longest = 2 ^ 64 - 1

-- the whole time was waited for, and fewer bytes have moved than have to
abbrev pub is_slow : ℕ → ℕ → ℕ → ℕ → Bool
is_slow stall least waited moved = nat_le stall waited && nat_lt moved least

-- after the whole time both are counted anew
abbrev pub goes_on : ℕ → ℕ → ℕ → Pace
goes_on stall waited moved = if nat_le stall waited then record { waited = 0; moved = 0 } else record { waited = waited; moved = moved }
