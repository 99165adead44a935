use Rattle.std.proofs.Common.{◌-◌, length}
use Rattle.h1_payload.specs.Places.{place_of}
use Rattle.h1_payload.specs.QuietWays.{LeadsQuietly}
use Rattle.h1_payload.proofs.scan.pass_quiet.Given as goal

-- nothing was passed that comes next
abbrev pub invariant-loop-at : goal.invariant-loop-at
invariant-loop-at l = LeadsQuietly (place_of l.fn.start) l.bytes 0 l.at (place_of l.place)

abbrev pub decreases-loop-at : goal.decreases-loop-at
decreases-loop-at l = length l.bytes - l.at
