-- The marks of a head, and the connection type that they give.
use Rattle.std.specs.Prelude.{Bool, true, false, if◌then◌else◌, Option, Some, None}
use Rattle.http_types.specs.declared.message.ConnectionType.{ConnectionType}
use Rattle.http_types.specs.declared.message.ConnectionType.TheVariants.{Close, KeepAlive, Upgrade}
use Rattle.http_types.specs.declared.message.Flags.{Flags}

-- no mark is set
abbrev pub no_flags : Flags
no_flags =
    record { close = false; keep_alive = false; upgrade = false; expect = false; no_chunking = false; in_camel_case = false }

-- a type adds its mark and takes none away
abbrev pub with_type : Flags → ConnectionType → Flags
with_type flags Close = record flags { close = true }
with_type flags KeepAlive = record flags { keep_alive = true }
with_type flags Upgrade = record flags { upgrade = true }

-- a client waits for leave to send the body (RFC 7231, section 5.1.1)
abbrev pub with_expect : Flags → Flags
with_expect flags = record flags { expect = true }

-- whether a body without a stated length may not be sent in chunks (RFC 7230, section 4.1)
abbrev pub with_no_chunking : Flags → Bool → Flags
with_no_chunking flags on = record flags { no_chunking = on }

-- whether names are sent in camel case
abbrev pub with_camel_case : Flags → Bool → Flags
with_camel_case flags on = record flags { in_camel_case = on }

-- the first of Close, KeepAlive and Upgrade whose mark is set
abbrev pub type_of_flags : Flags → Option ConnectionType
type_of_flags flags =
    if flags.close then Some Close else (
    if flags.keep_alive then Some KeepAlive else (
    if flags.upgrade then Some Upgrade else
    None))
