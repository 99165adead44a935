use Rattle.std.proofs.Common.{◌≡◌, ◌-◌, ◌≤◌, length}
use Rattle.h1_output.specs.Queued.{behind}
use Rattle.h1_output.proofs.queue.Segments.advance.Given as given

abbrev pub invariant-loop-left : given.invariant-loop-left
invariant-loop-left l = (l.left ≤ l.count) × (l.left ≤ length l.self.bytes) × (l.self ≡ behind (l.count - l.left) l.initial.self)

abbrev pub decreases-loop-left : given.decreases-loop-left
decreases-loop-left l = l.left
