-- A request's head beside its fields.
use Rattle.std.specs.Prelude.{◌≡◌, []}
use Rattle.http_types.specs.declared.message.Flags.{Flags}
use Rattle.http_types.specs.Flags.{no_flags}
use Rattle.http_types.specs.declared.requests.head.RequestHead.{RequestHead}

-- the marks of a head
abbrev pub request_flags : RequestHead → Flags
request_flags head = head.flags

-- new is old with these marks
abbrev pub HasRequestFlags : RequestHead → RequestHead → Flags → Type 0
HasRequestFlags old new flags = new ≡ record old { flags = flags }

-- neither headers nor marks, and the rest as it was
abbrev pub cleared_request : RequestHead → RequestHead
cleared_request head = record head { headers = []; flags = no_flags }
