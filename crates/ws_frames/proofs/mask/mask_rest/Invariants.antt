use Rattle.std.proofs.Common.{◌≡◌, ℕ, ◌-◌, List, length}
use Rattle.ws_frames.specs.MaskLanes.{IsMaskedUpTo}
use Rattle.ws_frames.proofs.mask.mask_rest.Given as goal

abbrev pub invariant-loop-at : goal.invariant-loop-at
invariant-loop-at l = (length l.buf ≡ length l.fn.buf) × ((all : List ℕ) → IsMaskedUpTo l.mask all l.from l.fn.buf → IsMaskedUpTo l.mask all l.at l.buf)

abbrev pub decreases-loop-at : goal.decreases-loop-at
decreases-loop-at l = length l.buf - l.at
