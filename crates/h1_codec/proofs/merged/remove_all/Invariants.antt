use Rattle.std.proofs.Common.{◌≡◌}
use Rattle.http_map.specs.HeaderMap.{keys}
use Rattle.h1_codec.specs.Writing.{remove_all}
use Rattle.h1_codec.proofs.merged.remove_all.Given as goal

abbrev pub invariant-loop-name : goal.invariant-loop-name
invariant-loop-name l = remove_all l.headers l.name-iterator ≡ remove_all l.fn.headers (keys l.extra)
