-- Which connection to the server is used again.
use Rattle.std.specs.Prelude.{ℕ, ◌-◌, Bool, ◌&&◌, nat_lt}
use Rattle.app_proxy.specs.declared.pool.Idle.{Idle}

-- neither a byte nor its end has come, and it hasn't been idle for so long
abbrev pub may_reuse : ℕ → ℕ → Idle → Bool
may_reuse reuse now idle = idle.is_quiet && nat_lt (now - idle.since) reuse
