use Rattle.std.proofs.Common.{◌≡◌}
use Rattle.http_map.specs.HeaderMap.{pairs, append_all}
use Rattle.app_get.proofs.fields.append_all.Given as goal

abbrev pub invariant-loop-name : goal.invariant-loop-name
invariant-loop-name l = append_all l.headers l.name-iterator ≡ append_all l.fn.headers (pairs l.fields)
