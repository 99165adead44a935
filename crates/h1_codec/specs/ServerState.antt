-- What a server's codec keeps, and what its calls do to it.
use Rattle.std.specs.Prelude.{◌≡◌, ℕ, ◌<◌, Bool, true, false, List, min, if◌then◌else◌, Option, Some, None}
use Rattle.http_config.specs.Config.{Settings}
use Rattle.http_config.specs.declared.keep_alive.KeepAlive.{KeepAlive}
use Rattle.http_config.specs.declared.keep_alive.KeepAlive.TheVariants.{Timeout, Os, Disabled}
use Rattle.http_framing.specs.declared.body.size.BodySize.{BodySize}
use Rattle.http_map.specs.HeaderMap.{Entries}
use Rattle.http_types.specs.Response.{FullResponse}
use Rattle.http_types.specs.ResponseHead.{ResponseParts}
use Rattle.http_types.specs.declared.error.ParseError.{ParseError}
use Rattle.http_types.specs.declared.message.ConnectionType.{ConnectionType}
use Rattle.http_types.specs.declared.message.ConnectionType.TheVariants.{Close, KeepAlive as Keeps, Upgrade}
use Rattle.model_h1.specs.Request.{Head, head_is}
use Rattle.model_h1.specs.RequestHead.{IsReading}
use Rattle.model_h1.specs.Answer.{Asked, asked_of, shape_of, type_of}
use Rattle.model_h1.specs.Setting.{Setting, keeps}
use Rattle.model_h1.specs.Text.{answer_head_text}
use Rattle.h1_encoder.specs.Encoding.{Encoding, of_length, first_encoding, encoded, behind, end_of, ended, missing_of}
use Rattle.h1_encoder.specs.Meaning.{answer_of, size_of, model_type, minor_of}
use Rattle.h1_encoder.specs.declared.error.EncodeError.{EncodeError}
use Rattle.h1_encoder.specs.declared.error.EncodeError.TheVariants.{Short}
use Rattle.h1_decoder.specs.HeadItem.{SaysHead, connection_type_of}
use Rattle.h1_decoder.specs.declared.decoder.HeadItem.{HeadItem}
use Rattle.h1_codec.specs.Kinds.{requests}
use Rattle.h1_codec.specs.ServerAnswers.{LeftAfter}
use Rattle.h1_codec.specs.FramedMessages.{Messages, Standing, Reads, Looked}
use Rattle.h1_codec.specs.declared.server_codec.Codec.{Codec}
use Rattle.h1_codec.specs.declared.server_codec.TheConstants.{LAST_MOMENT}
use Rattle.h1_payload.specs.Decoding.{Decoding}
use Rattle.h1_codec.specs.declared.framed_message.MessageType.{MessageType}
use Rattle.h1_codec.specs.declared.framed_message.MessageType.TheVariants as kind
use Rattle.h1_codec.specs.declared.framed_message.Message.{Message}
use Rattle.h1_codec.specs.declared.framed_message.Message.TheVariants.{Item, Chunk}

-- ---- its parts

abbrev pub codec_settings : Codec → Settings
codec_settings c = c.config

-- where it stands in what it reads
abbrev pub codec_standing : Codec → Standing
codec_standing c = record { search = c.heads; body = c.body }

-- the trailers of the body that ended last, until they are taken
abbrev pub codec_trailers : Codec → Option Entries
codec_trailers c = c.trailers

-- what the next answer needs of its request
abbrev pub codec_asked : Codec → Asked
codec_asked c = record { minor = minor_of c.version; is_head = c.is_head; is_raw = c.is_raw; connection = model_type c.asked }

-- what becomes of the connection, by the request or the answer that came last
abbrev pub codec_connection : Codec → ConnectionType
codec_connection c = c.connection

-- the moment of the date lines, in milliseconds since 1970
abbrev pub codec_moment : Codec → ℕ
codec_moment c = min c.moment LAST_MOMENT

-- how far the body of the answer is
abbrev pub codec_encoding : Codec → Encoding
codec_encoding c = c.encoder

-- ---- what its calls change

abbrev pub with_now : ℕ → Codec → Codec
with_now now c = record c { moment = now }

abbrev pub without_trailers : Codec → Codec
without_trailers c = record c { trailers = None }

abbrev pub with_encoding : Encoding → Codec → Codec
with_encoding encoding c = record c { encoder = encoding }

abbrev pub with_answer : ConnectionType → Encoding → Codec → Codec
with_answer kind encoding c = record c { connection = kind; encoder = encoding }

-- what no decode changes: the settings, the moment, and how far the body of the answer is
pub record Writing : Type 0 where
  pub settings : Settings
  pub moment : ℕ
  pub encoding : Encoding

abbrev pub codec_writing : Codec → Writing
codec_writing c = record { settings = codec_settings c; moment = codec_moment c; encoding = codec_encoding c }

abbrev pub KeepsWriting : Codec → Codec → Type 0
KeepsWriting old new = codec_writing new ≡ codec_writing old

-- and what is asked is as it was
abbrev pub KeepsAll : Codec → Codec → Type 0
KeepsAll old new =
    KeepsWriting old new × (codec_asked new ≡ codec_asked old) × (codec_connection new ≡ codec_connection old)

-- ---- reading

-- the connection is kept after an answer
abbrev pub is_enabled : KeepAlive → Bool
is_enabled (Timeout duration) = true
is_enabled Os = true
is_enabled Disabled = false

-- no connection is kept alive where that is off
abbrev pub allowed : Bool → ConnectionType → ConnectionType
allowed true kind = kind
allowed false Keeps = Close
allowed false Close = Close
allowed false Upgrade = Upgrade

-- from where the codec stands, bytes say this
abbrev pub CodecReads : Codec → List ℕ → Messages HeadItem → Type 0
CodecReads c bytes all = Reads requests false (codec_standing c) bytes all

-- they begin with those that it looked at and did not take
abbrev pub HasLookedAt : Codec → List ℕ → Type 0
HasLookedAt c bytes = Looked (codec_standing c) bytes

-- after an error the bytes stay, and the codec too, but for a body that broke: it is broken for good
abbrev pub CodecLeft : ParseError → Codec → List ℕ → Codec → List ℕ → Type 0
CodecLeft error old bytes new rest =
    LeftAfter error (codec_standing old) bytes (codec_standing new) rest × KeepsAll old new × (codec_trailers new ≡ codec_trailers old)

-- The next answer is one to the head that was given; nothing else that is given changes what is asked.
abbrev pub HasAsked : Codec → Option (Message HeadItem) → Codec → Type 0
HasAsked old (Some (Item item)) new =
    ((piece : List ℕ) (h : Head) → IsReading piece (head_is h) → SaysHead item h → codec_asked new ≡ asked_of h)
    × (codec_connection new ≡ allowed (is_enabled (codec_settings old).keep_alive) (connection_type_of (codec_asked new).connection))
HasAsked old answer new = (codec_asked new ≡ codec_asked old) × (codec_connection new ≡ codec_connection old)

-- what is left to come of a message whose body is raw or not, where this of it is open
abbrev pub left_to_come : Bool → Option Decoding → MessageType
left_to_come true body = kind.Stream
left_to_come false None = kind.None
left_to_come false (Some d) = kind.Payload

-- ---- writing

-- what is sent: a head with the size of its body, bytes of the body, or its end
abbrev pub Sent : Type 0
Sent = Message (FullResponse Unit × BodySize)

-- how far the body of an answer is that was begun: to HEAD there is none
abbrev pub begun : Asked → ResponseParts → BodySize → Encoding
begun asked head size = if asked.is_head then of_length 0 else first_encoding (shape_of asked (answer_of head) (size_of size))

-- The head's text and what becomes of the connection are those of the definitions, for each setting that keeps connections
-- alive where this codec does.
abbrev pub IsHeadWritten : Codec → ResponseParts → BodySize → List ℕ → Codec → Type 0
IsHeadWritten old head size text new =
    (setting : Setting) → keeps setting.keep_alive ≡ is_enabled (codec_settings old).keep_alive
    → (text ≡ answer_head_text setting false (codec_asked old) (answer_of head) (size_of size) (codec_moment old))
    × (model_type (codec_connection new) ≡ type_of setting false (codec_asked old) (answer_of head) (size_of size))

-- the item has this text, and leaves the codec so
abbrev pub Writes : Codec → Sent → List ℕ → Codec → Type 0
Writes old (Item sent) text new =
    IsHeadWritten old sent.0.head sent.1 text new
    × (new ≡ with_answer (codec_connection new) (begun (codec_asked old) sent.0.head sent.1) old)
Writes old (Chunk (Some bytes)) text new =
    (text ≡ encoded (codec_encoding old) bytes) × (new ≡ with_encoding (behind (codec_encoding old) bytes) old)
Writes old (Chunk None) text new =
    (missing_of (codec_encoding old) ≡ 0) × (text ≡ end_of (codec_encoding old)) × (new ≡ with_encoding (ended (codec_encoding old)) old)

-- an end is refused where bytes of a stated length are missing
abbrev pub Refuses : EncodeError → Codec → Sent → Type 0
Refuses (Short n) old (Chunk None) = (missing_of (codec_encoding old) ≡ n) × (0 < n)
Refuses error old item = ⊥
