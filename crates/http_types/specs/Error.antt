-- What an error says that is made of its cause.
use Rattle.std.specs.Prelude.{Some}
use Rattle.http_types.specs.declared.error.Error.{Error}
use Rattle.http_types.specs.declared.error.Kind.TheVariants as kind
use Rattle.http_types.specs.declared.error.Cause.TheVariants as cause
use Rattle.http_types.specs.declared.error.HttpError.{HttpError}
use Rattle.http_types.specs.declared.error.ParseError.{ParseError}
use Rattle.http_types.specs.declared.error.PayloadError.{PayloadError}

-- a head that is refused
abbrev pub of_http : HttpError → Error
of_http e = record { kind = kind.Http; cause = Some (cause.Http e) }

-- a message that could not be read
abbrev pub of_parse : ParseError → Error
of_parse e = record { kind = kind.Parse; cause = Some (cause.Parse e) }

-- a payload that could not be read
abbrev pub of_payload : PayloadError → Error
of_payload e = record { kind = kind.Payload; cause = Some (cause.Payload e) }
