use Rattle.std.proofs.Common.{◌-◌, ◌≤◌, length, take}
use Rattle.model_h1.specs.HeadPiece.{AreBlankLines}
use Rattle.h1_decoder.proofs.scan.skip_blank_lines.Given as goal

abbrev pub invariant-loop-len : goal.invariant-loop-len
invariant-loop-len l = (l.start ≤ length l.bytes) × (AreBlankLines (take l.at l.bytes) → AreBlankLines (take l.start l.bytes))

abbrev pub decreases-loop-len : goal.decreases-loop-len
decreases-loop-len l = length l.bytes - l.start
