-- What an error of http_types says that is made of one of frames.
use Rattle.std.specs.Prelude.{Some}
use Rattle.http_types.specs.declared.error.Error.{Error}
use Rattle.http_types.specs.declared.error.Kind.TheVariants as kind
use Rattle.http_types.specs.declared.error.Cause.TheVariants as cause

-- a rule of frames is broken; which one isn't told
abbrev pub of_protocol : Error
of_protocol = record { kind = kind.Ws; cause = Some cause.Protocol }
