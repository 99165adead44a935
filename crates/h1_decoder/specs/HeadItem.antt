-- What a head that was read says.
use Rattle.std.specs.Prelude.{◌≡◌, ℕ, zero, suc, [], Option, Some, None}
use Rattle.http.specs.declared.version.Version.{Version}
use Rattle.http.specs.declared.version.TheConstants.Version.{HTTP_10, HTTP_11}
use Rattle.http_types.specs.declared.message.ConnectionType.{ConnectionType}
use Rattle.http_types.specs.declared.message.ConnectionType.TheVariants.{Close, KeepAlive, Upgrade}
use Rattle.http_types.specs.declared.message.Flags.{Flags}
use Rattle.http_types.specs.Flags.{no_flags, with_type}
use Rattle.http_types.specs.RequestHead.{request_flags}
use Rattle.http_framing.specs.Kinds.{kind_of}
use Rattle.http_uri.specs.Uri.{Spells}
use Rattle.h1_decoder.specs.declared.decoder.HeadItem.{HeadItem}
use Rattle.http_framing.specs.HeaderLines.{header_map}
use Rattle.model_h1.specs.LengthTable.{asked_type}
use Rattle.model_h1.specs.Request as model

-- HTTP/1.0 or HTTP/1.1
abbrev pub version_of : ℕ → Version
version_of zero = HTTP_10
version_of (suc _) = HTTP_11

-- a connection type
abbrev pub connection_type_of : model.ConnectionType → ConnectionType
connection_type_of model.close = Close
connection_type_of model.keep_alive = KeepAlive
connection_type_of model.upgrade = Upgrade

-- the mark of the type that was asked for, if one was
abbrev pub asked_flags : Option model.ConnectionType → Flags
asked_flags None = no_flags
asked_flags (Some type) = with_type no_flags (connection_type_of type)

-- the marks of a head that was read: what its last Connection line asks for, and whether its client waits for leave
abbrev pub flags_of : model.Head → Flags
flags_of h = record (asked_flags (asked_type h.headers)) { expect = h.expects }

-- the item says what the head says
pub record SaysHead (item : HeadItem) (h : model.Head) : Type 0 where
  pub method : item.head.method ≡ h.method
  pub target : item.target ≡ h.target
  pub uri : Spells h.target item.head.uri
  pub version : item.head.version ≡ version_of h.minor
  pub headers : item.head.headers ≡ header_map h.headers
  pub body : kind_of item.body ≡ h.body
  pub flags : request_flags item.head ≡ flags_of h
  pub peer : item.head.peer_addr ≡ None

-- the item with no headers, and all else as it is
abbrev pub without_headers : HeadItem → HeadItem
without_headers item = record item { head = record item.head { headers = [] } }
