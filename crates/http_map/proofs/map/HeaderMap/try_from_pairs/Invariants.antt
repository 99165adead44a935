use Rattle.std.proofs.Common.{◌≡◌, []}
use Rattle.http_map.specs.HeaderMap.{append_all}
use Rattle.http_map.proofs.map.HeaderMap.try_from_pairs.Given as goal

abbrev pub invariant-loop-name : goal.invariant-loop-name
invariant-loop-name g l = l.map ≡ append_all [] l.yielded
