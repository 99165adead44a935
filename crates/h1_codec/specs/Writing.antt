-- What a client's codec writes.
use Rattle.std.specs.Prelude.{◌≡◌, ℕ, ◌<◌, Bool, false, IsTrue, List, Option, Some, None, unwrap_or, bytes_eq, codes, fold}
use Rattle.http_framing.specs.declared.body.size.BodySize.{BodySize}
use Rattle.http_types.specs.ConnectionType.{default_type}
use Rattle.http_types.specs.Flags.{type_of_flags}
use Rattle.http_types.specs.RequestHead.{request_flags}
use Rattle.http_types.specs.declared.message.ConnectionType.{ConnectionType}
use Rattle.http_map.specs.HeaderMap.{Entries, keys, pairs, remove, append_all}
use Rattle.http_types.specs.RequestHeadType.{shown_head, extra_headers_of}
use Rattle.http_types.specs.declared.requests.head.RequestHead.{RequestHead}
use Rattle.http_types.specs.declared.requests.head_type.RequestHeadType.{RequestHeadType}
use Rattle.model_client.specs.RequestText.{AskedHead, request_text, asked_shape}
use Rattle.h1_encoder.specs.Encoding.{Encoding, first_encoding, encoded, behind, end_of, ended, missing_of}
use Rattle.h1_encoder.specs.Meaning.{headers_of, size_of, model_type}
use Rattle.h1_encoder.specs.declared.error.EncodeError.{EncodeError}
use Rattle.h1_encoder.specs.declared.error.EncodeError.TheVariants.{Short, Version}
use Rattle.h1_codec.specs.ServerState.{is_enabled, allowed}
use Rattle.h1_codec.specs.declared.framed_message.Message.{Message}
use Rattle.h1_codec.specs.declared.framed_message.Message.TheVariants.{Item, Chunk}
use Rattle.h1_encoder.specs.RequestMeaning.{asked_head, has_text}
use Rattle.h1_codec.specs.ClientState.{client_settings, client_moment, client_encoding, of_codec}
use Rattle.h1_codec.specs.declared.client_state.Client.{Client}
use Rattle.h1_codec.specs.declared.client_codec.ClientCodec.{ClientCodec}

abbrev pub with_now : ℕ → Client → Client
with_now now c = record c { moment = now }

abbrev pub without_trailers : Client → Client
without_trailers c = record c { trailers = None }

abbrev pub with_encoding : Encoding → Client → Client
with_encoding encoding c = record c { encoder = encoding }

-- the method is HEAD (RFC 7231, section 4.3.2)
abbrev pub is_head_request : RequestHead → Bool
is_head_request head = bytes_eq head.method (codes "HEAD")

-- what the request asks of the connection, which is kept alive only where the settings let it
abbrev pub kind_asked : Client → RequestHead → ConnectionType
kind_asked c head = allowed (is_enabled (client_settings c).keep_alive) (unwrap_or (type_of_flags (request_flags head)) (default_type head.version))

-- how its body goes out
abbrev pub encoding_asked : BodySize → Encoding
encoding_asked size = first_encoding (asked_shape (size_of size))

-- without these names
abbrev pub remove_all : Entries → List (List ℕ) → Entries
remove_all m names = fold (λ n name. remove n name) m names

-- the headers of a shared head without those of a name that stands beside it, and after them those beside it
abbrev pub merged : Entries → Entries → Entries
merged own extra = append_all (remove_all own (keys extra)) (pairs extra)

-- the headers that go out, of a head's own and those beside it
abbrev pub sent_headers : Entries → Option Entries → Entries
sent_headers own None = own
sent_headers own (Some extra) = merged own extra

-- the head that goes out
abbrev pub with_headers : RequestHead → Entries → AskedHead
with_headers head headers = record (asked_head head) { headers = headers_of headers }

abbrev pub sent_head : RequestHeadType → AskedHead
sent_head given = with_headers (shown_head given) (sent_headers (shown_head given).headers (extra_headers_of given))

-- what is sent: a head with the size of its body, bytes of the body, or its end
abbrev pub Sent : Type 0
Sent = Message (RequestHeadType × BodySize)

-- the text is that of the definitions for the head that goes out, and the answers are then those to it
pub record IsRequestWritten (old : Client) (head : RequestHead) (goes_out : AskedHead) (size : BodySize) (text : List ℕ) (new : Client) : Type 0 where
  pub version : IsTrue (has_text head.version)
  pub text_is : text ≡ request_text goes_out (asked_shape (size_of size)) (size_of size) (model_type (kind_asked old head)) (client_moment old)
  pub leaves : new ≡ record old { is_head = is_head_request head; connection = kind_asked old head; encoder = encoding_asked size }

-- the item has this text, and leaves the codec so
abbrev pub HasWritten : Client → Sent → List ℕ → Client → Type 0
HasWritten old (Item sent) text new = IsRequestWritten old (shown_head sent.0) (sent_head sent.0) sent.1 text new
HasWritten old (Chunk (Some bytes)) text new =
    (text ≡ encoded (client_encoding old) bytes) × (new ≡ with_encoding (behind (client_encoding old) bytes) old)
HasWritten old (Chunk None) text new =
    (missing_of (client_encoding old) ≡ 0) × (text ≡ end_of (client_encoding old)) × (new ≡ with_encoding (ended (client_encoding old)) old)

abbrev pub Writes : ClientCodec → Sent → List ℕ → ClientCodec → Type 0
Writes old item text new = HasWritten (of_codec old) item text (of_codec new)

-- A head of another version is refused, and an end where bytes of a stated length are missing.
abbrev pub Refuses : EncodeError → Client → Sent → Type 0
Refuses Version old (Item sent) = has_text (shown_head sent.0).version ≡ false
Refuses (Short n) old (Chunk None) = (missing_of (client_encoding old) ≡ n) × (0 < n)
Refuses error old item = ⊥
