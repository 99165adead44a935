use Rattle.std.proofs.Common.{◌≡◌, map, take}
use Rattle.rooms.specs.Hub.{buffered_of}
use Rattle.rooms.proofs.hub.Hub.buffered.Given as goal

-- the bytes of the connections so far
abbrev pub invariant-loop-seat : goal.invariant-loop-seat
invariant-loop-seat l = l.buffered.items ≡ map buffered_of (take l.seat-index l.self.seats)
