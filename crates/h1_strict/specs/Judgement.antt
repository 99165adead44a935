-- Which doubt comes first of a head that was read.
use Rattle.std.specs.Prelude.{ℕ, Bool, true, false, not, ◌&&◌, ◌||◌, ◌==◌, List, [], ◌∷◌, slice_index, codes, bytes_eq, if◌then◌else◌, Option, Some, None, unwrap_or, Result, Ok, Err}
use Rattle.std.specs.List.{list_all, list_any}
use Rattle.http_uri.specs.Uri.{uri_scheme, uri_authority}
use Rattle.http_uri.specs.declared.uri.Uri.{Uri}
use Rattle.http_framing.specs.declared.body.kind.BodyKind.{BodyKind}
use Rattle.http_framing.specs.declared.body.kind.BodyKind.TheVariants as kind
use Rattle.http_header.specs.Token.{lowercase}
use Rattle.http_header.specs.FieldValue.{FieldValue}
use Rattle.http_map.specs.HeaderMap.{get_all}
use Rattle.http_types.specs.declared.message.ConnectionType.{ConnectionType}
use Rattle.http_types.specs.declared.message.ConnectionType.TheVariants as type
use Rattle.http_types.specs.declared.requests.head.RequestHead.{RequestHead}
use Rattle.http_types.specs.ConnectionType.{default_type}
use Rattle.http_types.specs.Flags.{type_of_flags}
use Rattle.http_types.specs.RequestHead.{request_flags}
use Rattle.http_types.specs.Version.{is_below_http11}
use Rattle.h1_decoder.specs.declared.decoder.HeadItem.{HeadItem}
use Rattle.h1_strict.specs.declared.doubt.HeadDoubt.{HeadDoubt}
use Rattle.h1_strict.specs.declared.doubt.HeadDoubt.TheVariants.{HostMissing, HostRepeated, HostInvalid, HostOther, TargetForm, ConnectBody, UpgradeVersion, UpgradeOption, UpgradeBody, CloseAmongOthers, UpgradeAmongOthers}
use Rattle.h1_strict.specs.Host.{colon, is_host, has_port}
use Rattle.h1_strict.specs.Options.{lists}

-- the values of the lines with this name
abbrev pub values : RequestHead → List ℕ → List FieldValue
values head name = get_all head.headers name

-- what the engine makes of the connection after this request (RFC 9112, section 9.3)
abbrev pub taken_type : RequestHead → ConnectionType
taken_type head = unwrap_or (type_of_flags (request_flags head)) (default_type head.version)

-- the host is that of an absolute target, whatever the case of both; any target with no scheme or no authority fits
abbrev pub fits_authority : Option (List ℕ) → Option (List ℕ) → List ℕ → Bool
fits_authority (Some scheme) (Some authority) host = bytes_eq (lowercase authority) (lowercase host)
fits_authority _ _ host = true

-- the doubt about one Host line
abbrev pub value_doubt : Uri → List ℕ → Option HeadDoubt
value_doubt uri host =
    if not (is_host host) then Some HostInvalid
    else (if fits_authority (uri_scheme uri) (uri_authority uri) host then None else Some HostOther)

-- the doubt about the Host lines: HTTP/1.1 needs one, and no version takes two (RFC 9112, section 3.2)
abbrev pub lines_doubt : Bool → Uri → List FieldValue → Option HeadDoubt
lines_doubt below_http11 uri [] = if below_http11 then None else Some HostMissing
lines_doubt below_http11 uri (value ∷ []) = value_doubt uri value.bytes
lines_doubt below_http11 uri (value ∷ second ∷ more) = Some HostRepeated

abbrev pub host_doubt : RequestHead → Option HeadDoubt
host_doubt head = lines_doubt (is_below_http11 head.version) head.uri (values head (codes "host"))

-- the target is an absolute URI, and its authority, if it has one, names a host (RFC 9110, section 4.2.1)
abbrev pub is_absolute : Option (List ℕ) → Option (List ℕ) → Bool
is_absolute None authority = false
is_absolute (Some scheme) None = true
is_absolute (Some scheme) (Some authority) = not (slice_index authority 0 == colon)

-- The target has a form that its method may have, and no fragment: a host with a port for CONNECT, `*` for OPTIONS, and for
-- each other method and for OPTIONS a path or an absolute URI (RFC 9112, sections 3.2.1 to 3.2.4).
abbrev pub fits_method : List ℕ → List ℕ → Bool → Bool
fits_method method target is_uri =
    if list_any (λ b. b == 35) target then false
    else (if bytes_eq method (codes "CONNECT") then is_host target && has_port target
    else (if bytes_eq target (codes "*") then bytes_eq method (codes "OPTIONS")
    else ((slice_index target 0 == 47) || is_uri)))

abbrev pub target_doubt : HeadItem → Option HeadDoubt
target_doubt item =
    if fits_method item.head.method item.target (is_absolute (uri_scheme item.head.uri) (uri_authority item.head.uri)) then None else Some TargetForm

-- the body has a length or comes in chunks
abbrev pub is_framed : BodyKind → Bool
is_framed kind.None = false
is_framed (kind.Length n) = true
is_framed kind.Chunked = true
is_framed kind.Raw = false

-- a CONNECT has no body (RFC 9110, section 9.3.6)
abbrev pub body_doubt : HeadItem → Option HeadDoubt
body_doubt item =
    if bytes_eq item.head.method (codes "CONNECT") && is_framed item.body then Some ConnectBody else None

-- all that follows the head is read as the body
abbrev pub is_raw : BodyKind → Bool
is_raw kind.Raw = true
is_raw _ = false

-- zeros alone
abbrev pub is_zero : List ℕ → Bool
is_zero text = list_all (λ b. b == 48) text

-- each line states a length of 0
abbrev pub are_zero : List FieldValue → Bool
are_zero lengths = list_all (λ value. is_zero value.bytes) lengths

-- a GET that states no length above 0
abbrev pub has_no_body : RequestHead → Bool
has_no_body head = bytes_eq head.method (codes "GET") && are_zero (values head (codes "content-length"))

-- All that follows is read as the body of a request that asks for a WebSocket. That fits a GET without a body alone: a stated
-- length counts also there, and no other method asks for a WebSocket (RFC 9112, section 6.3; RFC 6455, section 4.1).
abbrev pub upgrade_body_doubt : HeadItem → Option HeadDoubt
upgrade_body_doubt item =
    if is_raw item.body && not (has_no_body item.head) then Some UpgradeBody else None

-- an Upgrade counts in HTTP/1.1 alone, and only where Connection lists the option upgrade (RFC 9110, section 7.8)
abbrev pub option_doubt : RequestHead → Option HeadDoubt
option_doubt head =
    if is_below_http11 head.version then Some UpgradeVersion
    else (if lists (codes "upgrade") (values head (codes "connection")) then None else Some UpgradeOption)

abbrev pub is_close : ConnectionType → Bool
is_close type.Close = true
is_close _ = false

abbrev pub is_upgrade : ConnectionType → Bool
is_upgrade type.Upgrade = true
is_upgrade _ = false

-- Connection lists close or upgrade, and the engine takes the connection for another type (RFC 9112, section 9.6)
abbrev pub connection_doubt : RequestHead → Option HeadDoubt
connection_doubt head =
    if not (is_close (taken_type head)) && lists (codes "close") (values head (codes "connection")) then Some CloseAmongOthers
    else (if not (is_upgrade (taken_type head)) && lists (codes "upgrade") (values head (codes "connection"))
    then Some UpgradeAmongOthers else None)

-- the first of two doubts
abbrev pub or_else : Option HeadDoubt → Option HeadDoubt → Option HeadDoubt
or_else (Some doubt) other = Some doubt
or_else None other = other

-- the doubt about a WebSocket, where one is asked for
abbrev pub upgrade_doubt : HeadItem → Option HeadDoubt
upgrade_doubt item =
    if lists (codes "websocket") (values item.head (codes "upgrade"))
    then or_else (option_doubt item.head) (upgrade_body_doubt item) else None

-- the first doubt about a head: its Host, its target, its body, its upgrade, its Connection
abbrev pub first_doubt : HeadItem → Option HeadDoubt
first_doubt item =
    or_else (host_doubt item.head)
    (or_else (target_doubt item)
    (or_else (body_doubt item)
    (or_else (upgrade_doubt item)
    (connection_doubt item.head))))

-- nothing, or the doubt
abbrev pub judgement : Option HeadDoubt → Result (Unit {0}) HeadDoubt
judgement None = Ok tt
judgement (Some doubt) = Err doubt

-- 400 for a head that is refused; none for one that is answered, after which the connection closes
abbrev pub status_of : HeadDoubt → Option ℕ
status_of CloseAmongOthers = None
status_of UpgradeAmongOthers = None
status_of _ = Some 400
