-- What the types of an answer mean in the model.
use Rattle.std.specs.Prelude.{ℕ, List, map, flat_map, if◌then◌else◌}
use Rattle.http.specs.declared.version.Version.{Version}
use Rattle.http_types.specs.ResponseHead.{ResponseParts}
use Rattle.http_types.specs.Version.{is_below_http11}
use Rattle.http_framing.specs.declared.body.size.BodySize.{BodySize}
use Rattle.http_framing.specs.declared.body.size.BodySize.TheVariants.{None as NoBody, Sized, Stream}
use Rattle.http_types.specs.declared.message.ConnectionType.{ConnectionType}
use Rattle.http_types.specs.declared.message.ConnectionType.TheVariants.{Close, KeepAlive, Upgrade}
use Rattle.http_map.specs.HeaderMap.{Entry, Entries}
use Rattle.model_h1.specs.Request as model
use Rattle.model_h1.specs.Answer as answers
use Rattle.model_h1.specs.Answer.{AnswerHead}
use Rattle.h1_encoder.specs.declared.shape.Shape.{Shape}
use Rattle.h1_encoder.specs.declared.shape.Shape.TheVariants.{None as NoShape, Length, Chunked, Raw}

-- the size of a body
abbrev pub size_of : BodySize → answers.BodySize
size_of NoBody = answers.size_none
size_of (Sized length) = answers.size_of length
size_of Stream = answers.size_stream

-- the lines under a name
abbrev pub lines_of : Entry → List model.Header
lines_of entry = map (λ value. record { name = entry.0; value = value.bytes }) entry.1

-- the lines of a map, name by name
abbrev pub headers_of : Entries → List model.Header
headers_of entries = flat_map lines_of entries

-- the head of an answer
abbrev pub answer_of : ResponseParts → AnswerHead
answer_of head =
    record {
      status = head.status;
      reason = head.reason;
      closes = head.flags.close;
      keeps_alive = head.flags.keep_alive;
      upgrades = head.flags.upgrade;
      no_chunking = head.flags.no_chunking;
      in_camel_case = head.flags.in_camel_case;
      headers = headers_of head.headers;
    }

-- what becomes of the connection
abbrev pub model_type : ConnectionType → model.ConnectionType
model_type Close = model.close
model_type KeepAlive = model.keep_alive
model_type Upgrade = model.upgrade

-- the minor number of the version that an answer to this version has
abbrev pub minor_of : Version → ℕ
minor_of version = if is_below_http11 version then 0 else 1

-- how a body goes out
abbrev pub model_shape : Shape → answers.Shape
model_shape NoShape = answers.shape_none
model_shape (Length length) = answers.shape_length length
model_shape Chunked = answers.shape_chunked
model_shape Raw = answers.shape_raw
