-- What a head says that is owned or shared.
use Rattle.std.specs.Prelude.{Option, None}
use Rattle.http_map.specs.HeaderMap.{Entries}
use Rattle.http_types.specs.declared.requests.head.RequestHead.{RequestHead}
use Rattle.http_types.specs.declared.requests.head_type.RequestHeadType.{RequestHeadType}
use Rattle.http_types.specs.declared.requests.head_type.RequestHeadType.TheVariants.{Owned, Rc}

-- the head itself
abbrev pub shown_head : RequestHeadType → RequestHead
shown_head (Owned head) = head
shown_head (Rc head extra) = head.value

-- the headers beside a shared one
abbrev pub extra_headers_of : RequestHeadType → Option Entries
extra_headers_of (Owned head) = None
extra_headers_of (Rc head extra) = extra
