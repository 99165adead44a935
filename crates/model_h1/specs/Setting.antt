-- What a connection is set to; durations are in milliseconds.
use Rattle.std.specs.Prelude.{ℕ, Bool, true, false}

-- how long a connection waits for the next request: so long, as long as the system lets it, or not at all
pub data KeepAlive : Type 0 where
  timeout : ℕ → KeepAlive
  by_system disabled : KeepAlive

-- A request or disconnect timeout of 0 is off. A piece of an answer waits while write_buffer bytes or more are to
-- be written. hold_size is the most bytes that are taken and not passed; any number will do here, and who sets it
-- keeps it from 8192 to 1048576.
pub record Setting : Type 0 where
  pub keep_alive : KeepAlive
  pub request_timeout : ℕ
  pub disconnect_timeout : ℕ
  pub allows_half_closed : Bool
  pub write_buffer : ℕ
  pub hold_size : ℕ

-- answers may leave the connection open
abbrev pub keeps : KeepAlive → Bool
keeps disabled = false
keeps _ = true
