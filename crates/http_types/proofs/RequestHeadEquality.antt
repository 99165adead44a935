-- A request's head is its fields.
use Rattle.std.proofs.Common.{◌≡◌, ℕ, List}
use Rattle.http_uri.specs.declared.uri.Uri.{Uri}
use Rattle.http_map.specs.HeaderMap.{Entries}
use Rattle.http_types.specs.declared.requests.head.RequestHead.{RequestHead}

-- equal parts make the head, where the rest was copied from it
pub with_equal_parts : (head : RequestHead) (method : List ℕ) (uri : Uri) (headers : Entries) → method ≡ head.method → uri ≡ head.uri → headers ≡ head.headers → record head { method = method; uri = uri; headers = headers } ≡ head
with_equal_parts head method uri headers same_method same_uri same_headers =
    λ i. record head { method = same_method i; uri = same_uri i; headers = same_headers i }
