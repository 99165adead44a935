-- What a client's codecs keep, and what bytes say to them.
use Rattle.std.specs.Prelude.{ℕ, Bool, true, false, List, min, ◌==◌, Option, Some, None, ⊤}
use Rattle.http_config.specs.Config.{Settings}
use Rattle.http_map.specs.HeaderMap.{Entries}
use Rattle.http_types.specs.ResponseHead.{ResponseParts}
use Rattle.http_types.specs.declared.message.ConnectionType.{ConnectionType}
use Rattle.http_types.specs.declared.message.ConnectionType.TheVariants.{Close, KeepAlive, Upgrade}
use Rattle.h1_encoder.specs.Encoding.{Encoding}
use Rattle.h1_decoder.specs.declared.response.ResponseItem.{ResponseItem}
use Rattle.h1_codec.specs.Kinds.{answers}
use Rattle.h1_payload.specs.Decoding.{Decoding}
use Rattle.h1_codec.specs.FramedMessages.{Messages, Standing, Reads, HasLooked, Breaks}
use Rattle.h1_codec.specs.declared.framed_message.MessageType.{MessageType}
use Rattle.h1_codec.specs.declared.framed_message.MessageType.TheVariants as kind
use Rattle.h1_codec.specs.declared.client_state.Client.{Client}
use Rattle.h1_codec.specs.declared.client_codec.ClientCodec.{ClientCodec}
use Rattle.h1_codec.specs.declared.payload.ClientPayloadCodec.{ClientPayloadCodec}
use Rattle.h1_codec.specs.declared.client_codec.TheConstants.{LAST_MOMENT}
use Rattle.h1_codec.specs.declared.client_error.ClientError.{ClientError}
use Rattle.h1_codec.specs.declared.client_error.ClientError.TheVariants.{Parse, Misplaced}

-- ---- their parts, which are the same of both

abbrev pub of_codec : ClientCodec → Client
of_codec c = c.client

abbrev pub of_payload : ClientPayloadCodec → Client
of_payload c = c.client

-- where they stand in what they read
abbrev pub client_standing : Client → Standing
client_standing c = record { search = c.heads; body = c.body }

abbrev pub client_settings : Client → Settings
client_settings c = c.config

-- the trailers of the body that ended last, until they are taken
abbrev pub client_trailers : Client → Option Entries
client_trailers c = c.trailers

-- the last request was HEAD, so that the answers to it have no body
abbrev pub client_is_head : Client → Bool
client_is_head c = c.is_head

-- the last answer passes on to another protocol
abbrev pub client_passes_on : Client → Bool
client_passes_on c = c.passes_on

-- what becomes of the connection
abbrev pub client_connection : Client → ConnectionType
client_connection c = c.connection

-- the moment of the date lines, in milliseconds since 1970
abbrev pub client_moment : Client → ℕ
client_moment c = min c.moment LAST_MOMENT

-- how far the body of the request is
abbrev pub client_encoding : Client → Encoding
client_encoding c = c.encoder

-- what no decode changes: the settings, whether the request was HEAD, the moment, and how far its body is
pub record Asking : Type 0 where
  pub settings : Settings
  pub is_head : Bool
  pub moment : ℕ
  pub encoding : Encoding

abbrev pub client_asking : Client → Asking
client_asking c = record { settings = client_settings c; is_head = c.is_head; moment = client_moment c; encoding = c.encoder }

-- ---- reading

-- from where they stand, bytes say this: heads of answers, with no body after HEAD
abbrev pub ClientReads : Client → List ℕ → Messages ResponseItem → Type 0
ClientReads c bytes all = Reads answers c.is_head (client_standing c) bytes all

-- they begin with those that were looked at and not taken
abbrev pub ClientLooked : Client → List ℕ → Type 0
ClientLooked c bytes = HasLooked c.body c.heads bytes

-- the bytes are refused so; that the other codec reads them says nothing of them
abbrev pub ClientBreaks : ClientError → Messages ResponseItem → Type 0
ClientBreaks (Parse e) all = Breaks e all
ClientBreaks Misplaced all = ⊤

-- what becomes of the connection: what the answer says, unless it only keeps it
abbrev pub answered : Option ConnectionType → ConnectionType → ConnectionType
answered (Some Close) asked = Close
answered (Some Upgrade) asked = Upgrade
answered (Some KeepAlive) asked = asked
answered None asked = asked

-- the connection passes on to another protocol (RFC 7230, section 6.7)
abbrev pub passes_on : ResponseParts → Bool
passes_on head = head.status == 101

-- what is left to come of an answer that passes on or doesn't, where this of it is open
abbrev pub left_to_come : Bool → Option Decoding → MessageType
left_to_come passes None = kind.None
left_to_come true (Some d) = kind.Stream
left_to_come false (Some d) = kind.Payload

-- ---- as the codecs' own

abbrev pub HeadReads : ClientCodec → List ℕ → Messages ResponseItem → Type 0
HeadReads c bytes all = ClientReads (of_codec c) bytes all

abbrev pub HeadLooked : ClientCodec → List ℕ → Type 0
HeadLooked c bytes = ClientLooked (of_codec c) bytes

abbrev pub PayloadReads : ClientPayloadCodec → List ℕ → Messages ResponseItem → Type 0
PayloadReads c bytes all = ClientReads (of_payload c) bytes all

abbrev pub PayloadLooked : ClientPayloadCodec → List ℕ → Type 0
PayloadLooked c bytes = ClientLooked (of_payload c) bytes
