-- What the parts of an edge say, against the definitions, and what is judged of a head as the code holds it.
use Rattle.std.specs.Prelude.{ℕ, Bool, false, not, ◌&&◌, List, [], ◌∷◌, ◌++◌, codes, decimal, if◌then◌else◌, Option, Some, None}
use Rattle.std.specs.declared.net.ip_addr.IpAddr.{IpAddr}
use Rattle.std.specs.declared.net.ip_addr.IpAddr.TheVariants as Ip
use Rattle.std.specs.declared.net.socket_addr.SocketAddr.{SocketAddr}
use Rattle.std.specs.Net.Socket.{socket_ip, socket_port}
use Rattle.std.specs.Net.Text.{ip_text}
use Rattle.http_header.specs.FieldValue.{FieldValue}
use Rattle.http_map.specs.HeaderMap.{get_all}
use Rattle.http_types.specs.Version.{is_below_http11}
use Rattle.http_uri.specs.ByteClasses.{is_scheme_byte}
use Rattle.model_h1.specs.Request.{Header}
use Rattle.model_h1.specs.Answer.{has_header}
use Rattle.model_client.specs.WrittenHead.{line_of}
use Rattle.h1_decoder.specs.declared.decoder.HeadItem.{HeadItem}
use Rattle.h1_strict.specs.Host.{is_host}
use Rattle.model_proxy.specs.Edge as model
use Rattle.model_proxy.specs.Edge.{element_of, via}
use Rattle.model_proxy.specs.HopNames.{hop_names, without}
use Rattle.model_proxy.specs.Targets.{authority_of}
use Rattle.model_proxy.specs.Judged.{are_bytes_right, is_form_right, is_authority_right}
use Rattle.model_proxy.specs.Forward.{client_names}
use Rattle.proxy_heads.specs.declared.edge.Edge.{Edge}

-- what an edge means
abbrev pub edge_of : Edge → model.Edge
edge_of e = record {
  address = e.address.bytes;
  element = e.element.bytes;
  host = e.host.bytes;
  trusts = e.trusts_client;
  is_lax = e.is_lax;
}

-- an address with its port, as 192.0.2.1:80 or [2001:db8::1]:80, without a zone
abbrev pub plain_text : IpAddr → ℕ → List ℕ
plain_text (Ip.V4 a) port = ip_text (Ip.V4 a) ++ codes ":" ++ decimal port
plain_text (Ip.V6 a) port = codes "[" ++ ip_text (Ip.V6 a) ++ codes "]:" ++ decimal port

-- what a server with the second address is told of a client with the first one
abbrev pub edge_between : SocketAddr → SocketAddr → model.Edge
edge_between client server = record {
  address = ip_text (socket_ip client);
  element = element_of (plain_text (socket_ip client) (socket_port client));
  host = plain_text (socket_ip server) (socket_port server);
  trusts = false;
  is_lax = false;
}

-- ---- heads that are refused

-- by the version, and the values of the Host lines
abbrev pub values_right : Bool → List FieldValue → Bool
values_right is_old [] = is_old
values_right is_old (value ∷ []) = is_host value.bytes
values_right is_old (value ∷ second ∷ more) = false

-- nothing is wrong with the head
abbrev pub is_item_right : HeadItem → Bool
is_item_right item =
    values_right (is_below_http11 item.head.version) (get_all item.head.headers (codes "host"))
    && (are_bytes_right item.target && (is_form_right item.head.method item.target && is_authority_right (authority_of item.target)))

-- where the bytes of a scheme end
abbrev pub is_no_scheme_byte : ℕ → Bool
is_no_scheme_byte b = not (is_scheme_byte b)

-- ---- lines

-- the names that a forwarder writes of its own, or answers
abbrev pub own_head_names : List (List ℕ)
own_head_names = codes "host" ∷ codes "content-length" ∷ codes "expect" ∷ []

-- a request's lines without those that stay behind
abbrev pub kept_lines : Bool → List Header → List Header
kept_lines trusts headers =
    without (hop_names headers ++ (codes "host" ∷ codes "content-length" ∷ codes "expect" ∷ (if trusts then [] else client_names))) headers

-- a line, where there is a value and none of the name is there
abbrev pub line_unless : Bool → List ℕ → Option (List ℕ) → List Header
line_unless is_there name None = []
line_unless is_there name (Some value) = if is_there then [] else line_of name value ∷ []

-- the host that is named, or the server's own
abbrev pub host_or : Option (List ℕ) → List ℕ → List ℕ
host_or None other = other
host_or (Some host) other = host

-- the lines that are added behind these, by the host that is named
abbrev pub added_lines : model.Edge → Option (List ℕ) → ℕ → List Header → List Header
added_lines e named minor passed =
    line_of (codes "host") (host_or named e.host)
    ∷ line_of (codes "via") (via minor)
    ∷ line_of (codes "x-forwarded-for") e.address
    ∷ line_of (codes "forwarded") e.element
    ∷ (line_unless (has_header (codes "x-forwarded-proto") passed) (codes "x-forwarded-proto") (Some (codes "http"))
    ++ line_unless (has_header (codes "x-forwarded-host") passed) (codes "x-forwarded-host") named)
