-- What is known of the machine's clock.
use Rattle.std.specs.Prelude.{ℕ}
use Rattle.net_sockets.specs.declared.system_clock.SystemClock.{SystemClock}

-- the last moment that it gave, or 0
abbrev pub last_moment : {R : Type 0} → SystemClock R → ℕ
last_moment c = c.last
