-- What a response ends as, where a `&mut` to one of its parts is returned.
use Rattle.std.specs.Borrow.{Lends, Fml, RattleType, MutBor}
use Rattle.http.specs.contracts.status.StatusCode.{the_row as status_row}
use Rattle.http_map.specs.HeaderMap.{Entries}
use Rattle.http_map.specs.contracts.map.HeaderMap.{the_row as map_row}
use Rattle.http_types.specs.ResponseHead.{ResponseParts}
use Rattle.http_types.specs.Response.{FullResponse}
use Rattle.http_types.specs.contracts.responses.head.ResponseHead.{the_row as head_row}
use Rattle.http_types.specs.contracts.responses.response.Response.{the_row}

module _ (B : RattleType) (s : MutBor (FullResponse B.Denot)) where
  -- once the borrow r ends, the response has the head last written through r
  abbrev pub lends_head : MutBor ResponseParts → Fml
  lends_head r = Lends (the_row B) head_row s r (λ w. record s.now { head = w })

  -- the same for the status
  abbrev pub lends_status : MutBor status_row.Denot → Fml
  lends_status r = Lends (the_row B) status_row s r (λ w. record s.now { head = record s.now.head { status = w } })

  -- the same for the headers
  abbrev pub lends_headers : MutBor Entries → Fml
  lends_headers r = Lends (the_row B) map_row s r (λ w. record s.now { head = record s.now.head { headers = w } })
