-- What a server allows its peers where nothing else is said.
use Rattle.std.specs.Prelude.{true}
use Rattle.serve_blocking.specs.declared.limits.Limits.{Limits}

-- milliseconds, and bytes
abbrev pub default_limits : Limits
default_limits =
    record {
      connections = 10000;
      stall = 30000;
      least = 1024;
      drop = 65536;
      linger = record { milliseconds = 2000; bytes = 262144 };
      end = 10000;
      judges_heads = true;
    }
