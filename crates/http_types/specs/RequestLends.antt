-- What a request's head ends as, where a `&mut` to its headers is returned.
use Rattle.std.specs.Borrow.{Lends, Fml, MutBor}
use Rattle.http_map.specs.HeaderMap.{Entries}
use Rattle.http_map.specs.contracts.map.HeaderMap.{the_row as map_row}
use Rattle.http_types.specs.declared.requests.head.RequestHead.{RequestHead}
use Rattle.http_types.specs.contracts.requests.head.RequestHead.{the_row}

-- the head has the headers last written through r
abbrev pub lends_headers : MutBor RequestHead → MutBor Entries → Fml
lends_headers s r = Lends the_row map_row s r (λ w. record s.now { headers = w })
