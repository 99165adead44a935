-- The status of the answer to an error (RFC 7231, sections 6.5.1 and 6.6.1).
use Rattle.std.specs.Prelude.{ℕ}
use Rattle.http_types.specs.declared.error.Kind.{Kind}
use Rattle.http_types.specs.declared.error.Kind.TheVariants.{Http, Parse, Payload, Body, SendResponse, Ws, Io, Encoder}

-- only a message that could not be parsed is the client's fault
abbrev pub status_of : Kind → ℕ
status_of Parse = 400
status_of Http = 500
status_of Payload = 500
status_of Body = 500
status_of SendResponse = 500
status_of Ws = 500
status_of Io = 500
status_of Encoder = 500
