use Rattle.std.proofs.Common.{◌≡◌, ◌%◌, ◌-◌, length}
use Rattle.ws_frames.specs.MaskLanes.{IsMaskedUpTo}
use Rattle.ws_frames.proofs.mask.apply_mask_fast32.Given as goal

abbrev pub invariant-loop-buf : goal.invariant-loop-buf
invariant-loop-buf l = (l.at % 4 ≡ 0) × IsMaskedUpTo l.mask l.fn.buf l.at l.buf

abbrev pub decreases-loop-buf : goal.decreases-loop-buf
decreases-loop-buf l = length l.buf - l.at

abbrev pub invariant-loop-buf-2 : goal.invariant-loop-buf-2
invariant-loop-buf-2 l = (l.at % 4 ≡ 0) × IsMaskedUpTo l.mask l.fn.buf l.at l.buf

abbrev pub decreases-loop-buf-2 : goal.decreases-loop-buf-2
decreases-loop-buf-2 l = length l.buf - l.at
