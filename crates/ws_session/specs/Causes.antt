-- What an error of http_types says that is made of one of a handshake.
use Rattle.std.specs.Prelude.{Some}
use Rattle.http_types.specs.declared.error.Error.{Error}
use Rattle.http_types.specs.declared.error.Kind.TheVariants as kind
use Rattle.http_types.specs.declared.error.Cause.TheVariants as cause

-- a handshake failed; at which check isn't told
abbrev pub of_handshake : Error
of_handshake = record { kind = kind.Ws; cause = Some cause.Handshake }
