use Rattle.std.proofs.Common.{ℕ, ◌-◌, ◌<◌, ◌≤◌, length}
use Rattle.h1_decoder.specs.LineEnds.{IsEmptyLineAt}
use Rattle.h1_decoder.proofs.scan.find_end.Given as goal

-- none of the line feeds that were passed has an empty line behind it
abbrev pub invariant-loop-len : goal.invariant-loop-len
invariant-loop-len l =
    (l.from ≤ l.at) × (l.at ≤ length l.bytes)
    × ((place end : ℕ) → l.from ≤ place → place < l.at → ¬ (IsEmptyLineAt l.bytes place end))

abbrev pub decreases-loop-len : goal.decreases-loop-len
decreases-loop-len l = length l.bytes - l.at
