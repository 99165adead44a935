use Rattle.std.proofs.Common.{◌-◌, length}
use Rattle.model_h1.specs.Place.{in_size}
use Rattle.h1_payload.specs.QuietWays.{LeadsQuietly}
use Rattle.h1_payload.proofs.size_line.pass_digits.Given as goal

-- all that was passed are digits of this size
abbrev pub invariant-loop-at : goal.invariant-loop-at
invariant-loop-at l = LeadsQuietly (in_size l.fn.start) l.bytes l.fn.from l.at (in_size l.size)

abbrev pub decreases-loop-at : goal.decreases-loop-at
decreases-loop-at l = length l.bytes - l.at
