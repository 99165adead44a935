-- The limits of a connection, but for the hold size, which is set. Those of a trailer section stand with the
-- grammar of chunks.
use Rattle.std.specs.Prelude.{ℕ, ◌-◌, ◌^◌}

-- the most header lines of a head
abbrev pub MAX_HEADER_LINES : ℕ
MAX_HEADER_LINES = 96

-- the most bytes of a frame that are not its payload: two, the further bytes of its length, and its mask
abbrev pub MAX_FRAME_HEAD : ℕ
MAX_FRAME_HEAD = 14

-- the most bytes that a whole frame may have: places are numbers below 2 ^ 64
abbrev pub MAX_FRAME : ℕ
MAX_FRAME = 2 ^ 64 - 1

-- the most bytes that the payload of a control frame may have (RFC 6455, section 5.5)
abbrev pub MAX_CONTROL_PAYLOAD : ℕ
MAX_CONTROL_PAYLOAD = 125

-- moments, in milliseconds since 1970, are below the first one of the year 10000
abbrev pub MAX_MOMENT : ℕ
MAX_MOMENT = 253402300800000
