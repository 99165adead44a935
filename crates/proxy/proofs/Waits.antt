-- The request that waits is what is to be sent on.
use Rattle.std.proofs.Common.{◌≡◌, ℕ, ap, ◌∙◌}
use Rattle.std.specs.Prelude.{unwrap_or}
use Rattle.http.specs.declared.version.Version.{Version}
use Rattle.http.specs.declared.version.TheConstants.Version.{HTTP_11}
use Rattle.http_types.specs.ConnectionType.{default_type}
use Rattle.http_types.specs.Flags.{no_flags, type_of_flags}
use Rattle.http_types.specs.RequestHead.{request_flags}
use Rattle.http_types.specs.declared.message.Flags.{Flags}
use Rattle.http_types.specs.declared.requests.head.RequestHead.{RequestHead}
use Rattle.model_h1.specs.Request.{Head, ConnectionType, keep_alive}
use Rattle.model_h1.specs.Answer.{BodySize}
use Rattle.h1_encoder.specs.Meaning.{model_type}
use Rattle.h1_encoder.specs.RequestMeaning.{asked_head}
use Rattle.h1_client.specs.ClientMeaning.{request_of}
use Rattle.model_client.specs.RequestText.{RequestGiven, request_text, asked_shape, given_request_text}
use Rattle.model_proxy.specs.Forward.{forwarded_size}

-- a head without marks, in HTTP/1.1, keeps the connection
pub plain_keeps : (head : RequestHead) → request_flags head ≡ no_flags → head.version ≡ HTTP_11 → (request_of head).connection ≡ keep_alive
plain_keeps head flags version =
    ap (λ (f : Flags). model_type (unwrap_or (type_of_flags f) (default_type head.version))) flags
    ∙ ap (λ (v : Version). model_type (unwrap_or (type_of_flags no_flags) (default_type v))) version

-- its text, by its size and its connection type
pub waiting_text : (h : Head) (head : RequestHead) (size : BodySize) (moment : ℕ) (given : RequestGiven) → size ≡ forwarded_size h
    → (request_of head).connection ≡ keep_alive
    → request_text (asked_head head) (asked_shape (forwarded_size h)) (forwarded_size h) keep_alive moment ≡ given_request_text given
    → request_text (request_of head).head (asked_shape size) size (request_of head).connection moment ≡ given_request_text given
waiting_text h head size moment given sized kind text =
    ap (λ (s : BodySize). request_text (asked_head head) (asked_shape s) s (request_of head).connection moment) sized
    ∙ ap (λ (k : ConnectionType). request_text (asked_head head) (asked_shape (forwarded_size h)) (forwarded_size h) k moment) kind
    ∙ text
