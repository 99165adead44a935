use Rattle.std.proofs.Common.{◌≡◌}
use Rattle.http_map.specs.HeaderMap.{keys}
use Rattle.app_get.specs.Heads.{remove_all}
use Rattle.app_get.proofs.fields.remove_all.Given as goal

abbrev pub invariant-loop-name : goal.invariant-loop-name
invariant-loop-name l = remove_all l.headers l.name-iterator ≡ remove_all l.fn.headers (keys l.fields)
