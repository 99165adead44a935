-- A request as the record of its parts.
use Rattle.std.specs.Prelude.{Option}
use Rattle.http_types.specs.declared.requests.head.RequestHead.{RequestHead}

-- own is what a service keeps beside the request
pub record RequestParts (P D : Type 0) : Type 0 where
  pub head : RequestHead
  pub payload : Option P
  pub own : D
