-- What a forwarder sends on for a request: its head with lines of the forwarder's own framing, and its body
-- (RFC 7230, sections 3.3, 5.3 and 5.7).
use Rattle.std.specs.Prelude.{ℕ, Bool, true, false, not, ◌&&◌, List, [], ◌∷◌, ◌++◌, take, flat_map, slice_get, codes, bytes_eq, if◌then◌else◌, Option, Some, None, unwrap_or}
use Rattle.std.specs.Option.{option_or}
use Rattle.model_h1.specs.Request.{Header, keep_alive, BodyKind, no_body, fixed_body, chunked_body, raw_body, is_raw_kind, Head}
use Rattle.model_h1.specs.LengthTable.{values_of, is_there}
use Rattle.model_h1.specs.Answer.{BodySize, size_none, size_of, size_stream, Shape, shape_length, shape_chunked, has_header}
use Rattle.model_h1.specs.AnswerText.{chunk_text, last_chunk}
use Rattle.model_client.specs.RequestText.{AskedHead, RequestGiven, asked_shape, given_request_text, joined}
use Rattle.model_client.specs.WrittenHead.{line_of}
use Rattle.model_proxy.specs.HopNames.{hop_names, without}
use Rattle.model_proxy.specs.Edge.{Edge, via}
use Rattle.model_proxy.specs.Targets.{authority_of, is_servable, target_sent}
use Rattle.model_proxy.specs.Judged.{is_refused}

-- A request can be sent on where its head isn't refused, it is no CONNECT, asks for no other protocol, and a server can be asked for its target.
abbrev pub is_forwardable : Edge → Head → Bool
is_forwardable e h =
    not (is_refused e h)
    && (not (bytes_eq h.method (codes "CONNECT")) && (not (is_raw_kind h.body) && is_servable h.method h.target))

-- ---- the lines

-- the lines by which forwarders tell of their clients (RFC 7239)
abbrev pub client_names : List (List ℕ)
client_names = codes "x-forwarded-for" ∷ codes "x-forwarded-proto" ∷ codes "x-forwarded-host" ∷ codes "forwarded" ∷ []

-- The names that stay behind: those for one connection alone; Host, which is written anew; the length, since the body is framed anew; Expect,
-- which a forwarder answers of its own (RFC 7231, section 5.1.1); and what the client says of earlier clients, unless that is trusted.
abbrev pub left_out : Edge → List Header → List (List ℕ)
left_out e headers =
    hop_names headers ++ (codes "host" ∷ codes "content-length" ∷ codes "expect" ∷ (if e.trusts then [] else client_names))

-- the lines that are passed on
abbrev pub passed_lines : Edge → List Header → List Header
passed_lines e headers = without (left_out e headers) headers

-- The host that the client names: that of an absolute target, whatever its Host says; else that of its first Host line (RFC 9112, section 3.2.2).
abbrev pub named_host : Head → Option (List ℕ)
named_host h = option_or (authority_of h.target) (slice_get (values_of (codes "host") h.headers) 0)

-- a line, where there is a value for it and no line of that name is passed on
abbrev pub unless_there : List ℕ → Option (List ℕ) → List Header → List Header
unless_there name None passed = []
unless_there name (Some value) passed = if has_header name passed then [] else line_of name value ∷ []

-- The lines that are added behind those that are passed on: the host, who passes the request on, and whom it comes from. Lists of earlier
-- clients that are kept grow by one; a protocol and a host that are kept are those of the first of them.
abbrev pub own_lines : Edge → Head → List Header → List Header
own_lines e h passed =
    line_of (codes "host") (unwrap_or (named_host h) e.host)
    ∷ line_of (codes "via") (via h.minor)
    ∷ line_of (codes "x-forwarded-for") e.address
    ∷ line_of (codes "forwarded") e.element
    ∷ (unless_there (codes "x-forwarded-proto") (Some (codes "http")) passed
    ++ unless_there (codes "x-forwarded-host") (named_host h) passed)

-- all lines but the one that frames the body
abbrev pub forwarded_lines : Edge → Head → List Header
forwarded_lines e h = passed_lines e h.headers ++ own_lines e h (passed_lines e h.headers)

-- ---- the head

-- a length is stated, if only that of no body
abbrev pub states_length : Head → Bool
states_length h = is_there (values_of (codes "content-length") h.headers)

-- How large the body is, by where the request's body ends: a request that states a length of 0 goes on as one.
abbrev pub size_by : Bool → BodyKind → BodySize
size_by stated no_body = if stated then size_of 0 else size_none
size_by stated (fixed_body n) = size_of n
size_by stated chunked_body = size_stream
size_by stated raw_body = size_none

abbrev pub forwarded_size : Head → BodySize
forwarded_size h = size_by (states_length h) h.body

-- the head, in HTTP/1.1 whatever the client speaks
abbrev pub forwarded_head : Edge → Head → AskedHead
forwarded_head e h = record {
  method = h.method;
  target = target_sent h.method h.target;
  minor = 1;
  in_camel_case = false;
  headers = forwarded_lines e h;
}

-- A request that is sent on: what is told of its client, its head as it was read, the moment, in milliseconds since 1970, the pieces of its
-- body that were taken so far, and whether its end was.
pub record Sent : Type 0 where
  pub edge : Edge
  pub head : Head
  pub moment : ℕ
  pub pieces : List (List ℕ)
  pub is_whole : Bool

-- the request that a server is to read
abbrev pub forwarded : Sent → RequestGiven
forwarded s = record {
  head = forwarded_head s.edge s.head;
  size = forwarded_size s.head;
  kind = keep_alive;
  moment = s.moment;
  pieces = s.pieces;
}

-- the text of pieces of a body of this shape: chunks are written anew, and their extensions and trailers are left out
abbrev pub pieces_sent : Shape → List (List ℕ) → List ℕ
pieces_sent (shape_length n) pieces = take n (joined pieces)
pieces_sent shape_chunked pieces = flat_map chunk_text pieces
pieces_sent _ pieces = []

-- what ends the body
abbrev pub end_sent : Shape → Bool → List ℕ
end_sent shape_chunked true = last_chunk
end_sent _ _ = []

-- the text of what was sent so far
abbrev pub forward : Sent → List ℕ
forward s =
    let shape = asked_shape (forwarded_size s.head) in
    given_request_text (forwarded s) ++ (pieces_sent shape s.pieces ++ end_sent shape s.is_whole)
