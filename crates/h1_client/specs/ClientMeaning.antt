-- What a client connection's types mean in the machine.
use Rattle.std.specs.Prelude.{unwrap_or}
use Rattle.http_config.specs.Config.{Settings}
use Rattle.http_config.specs.declared.keep_alive.KeepAlive.{KeepAlive as Policy}
use Rattle.http_config.specs.declared.keep_alive.KeepAlive.TheVariants.{Timeout, Os, Disabled}
use Rattle.http_types.specs.ConnectionType.{default_type}
use Rattle.http_types.specs.Flags.{type_of_flags}
use Rattle.http_types.specs.RequestHead.{request_flags}
use Rattle.http_types.specs.declared.message.ConnectionType.{ConnectionType}
use Rattle.http_types.specs.declared.requests.head.RequestHead.{RequestHead}
use Rattle.model_h1.specs.Setting.{Setting, KeepAlive, timeout, by_system, disabled}
use Rattle.h1_encoder.specs.Meaning.{model_type}
use Rattle.h1_encoder.specs.RequestMeaning.{asked_head}
use Rattle.model_client.specs.ClientEvent as on
use Rattle.model_client.specs.ClientEvent.{ClientRequest}
use Rattle.h1_client.specs.declared.event.ClientEnd.{ClientEnd}
use Rattle.h1_client.specs.declared.event.ClientEnd.TheVariants.{BadAnswer, LargeAnswer, BrokenAnswer, FailedRequest, Asked, Unasked, InputEnded}

-- ---- the setting

abbrev pub keep_alive_of : Policy → KeepAlive
keep_alive_of (Timeout milliseconds) = timeout milliseconds
keep_alive_of Os = by_system
keep_alive_of Disabled = disabled

-- a client's side asks for nothing of it but how many bytes may wait to be written, and how many may be held
abbrev pub setting_of : Settings → Setting
setting_of settings = record {
  keep_alive = keep_alive_of settings.keep_alive;
  request_timeout = settings.client_request_timeout;
  disconnect_timeout = settings.client_disconnect_timeout;
  allows_half_closed = settings.h1_allow_half_closed;
  write_buffer = settings.h1_write_buffer_size;
  hold_size = settings.h1_hold_size;
}

-- ---- a request

-- what the marks of a head ask of the connection, and without one its version
abbrev pub marked_type : RequestHead → ConnectionType
marked_type head = unwrap_or (type_of_flags (request_flags head)) (default_type head.version)

abbrev pub request_of : RequestHead → ClientRequest
request_of head = record { head = asked_head head; connection = model_type (marked_type head) }

-- ---- the end

abbrev pub end_of : ClientEnd → on.ClientEnd
end_of BadAnswer = on.bad_answer
end_of LargeAnswer = on.large_answer
end_of BrokenAnswer = on.broken_answer
end_of FailedRequest = on.failed_request
end_of Asked = on.asked
end_of Unasked = on.unasked
end_of InputEnded = on.input_ended
