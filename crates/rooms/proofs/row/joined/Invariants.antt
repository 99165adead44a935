use Rattle.std.proofs.Common.{◌≡◌, take}
use Rattle.std.specs.List.{flat_map}
use Rattle.model_rooms.specs.Member.{payload}
use Rattle.rooms.proofs.row.joined.Given as goal

-- the payloads so far
abbrev pub invariant-loop-line : goal.invariant-loop-line
invariant-loop-line l = l.bytes.items ≡ flat_map payload (take l.line-index l.lines)
