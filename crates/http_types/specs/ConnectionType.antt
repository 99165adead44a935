-- What a head asks of its connection (RFC 7230, section 6.3).
use Rattle.std.specs.Prelude.{◌≡◌, if◌then◌else◌, unwrap_or}
use Rattle.http.specs.declared.version.Version.{Version}
use Rattle.http_types.specs.declared.message.ConnectionType.{ConnectionType}
use Rattle.http_types.specs.declared.message.ConnectionType.TheVariants.{Close, KeepAlive}
use Rattle.http_types.specs.declared.message.Flags.{Flags}
use Rattle.http_types.specs.Flags.{type_of_flags}
use Rattle.http_types.specs.Version.{is_below_http11}

-- without a mark a head below HTTP/1.1 closes its connection, and another keeps it
abbrev pub default_type : Version → ConnectionType
default_type version = if is_below_http11 version then Close else KeepAlive

-- the type that the marks give, and without one the version's
abbrev pub IsTypeOf : Flags → Version → ConnectionType → Type 0
IsTypeOf flags version type = type ≡ unwrap_or (type_of_flags flags) (default_type version)
