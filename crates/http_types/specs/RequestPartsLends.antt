-- What a request ends as, where a `&mut` to one of its parts is returned.
use Rattle.std.specs.Prelude.{Option}
use Rattle.std.specs.Borrow.{Lends, Fml, RattleType, MutBor}
use Rattle.std.specs.contracts.option.Option.{the_row as option_row}
use Rattle.http_map.specs.HeaderMap.{Entries}
use Rattle.http_map.specs.contracts.map.HeaderMap.{the_row as map_row}
use Rattle.http_uri.specs.declared.uri.Uri.{Uri}
use Rattle.http_uri.specs.contracts.uri.Uri.{the_row as uri_row}
use Rattle.http_types.specs.declared.requests.head.RequestHead.{RequestHead}
use Rattle.http_types.specs.contracts.requests.head.RequestHead.{the_row as head_row}
use Rattle.http_types.specs.contracts.requests.request.Request.{the_row}
use Rattle.http_types.specs.Request.{RequestParts}

module _ (P D : RattleType) (s : MutBor (RequestParts P.Denot D.Denot)) where
  -- once the borrow r ends, the request has the head last written through r
  abbrev pub lends_head : MutBor RequestHead → Fml
  lends_head r = Lends (the_row P D) head_row s r (λ w. record s.now { head = w })

  -- the same for the headers
  abbrev pub lends_headers : MutBor Entries → Fml
  lends_headers r = Lends (the_row P D) map_row s r (λ w. record s.now { head = record s.now.head { headers = w } })

  -- the same for the target
  abbrev pub lends_uri : MutBor Uri → Fml
  lends_uri r = Lends (the_row P D) uri_row s r (λ w. record s.now { head = record s.now.head { uri = w } })

  -- the same for the payload
  abbrev pub lends_payload : MutBor (Option P.Denot) → Fml
  lends_payload r = Lends (the_row P D) (option_row P) s r (λ w. record s.now { payload = w })

  -- the same for what is kept beside the request
  abbrev pub lends_own : MutBor D.Denot → Fml
  lends_own r = Lends (the_row P D) D s r (λ w. record s.now { own = w })
