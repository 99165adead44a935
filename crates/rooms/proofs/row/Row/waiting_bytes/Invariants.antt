use Rattle.std.proofs.Common.{◌≡◌, ◌^◌, ◌-◌, take, min}
use Rattle.model_rooms.specs.Member.{byte_count}
use Rattle.rooms.proofs.row.Row.waiting_bytes.Given as goal

-- the bytes so far, as many as can be counted
abbrev pub invariant-loop-index : goal.invariant-loop-index
invariant-loop-index l = l.count ≡ min (byte_count (take l.index l.self.waiting)) (2 ^ 64 - 1)
