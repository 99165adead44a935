-- Nothing is masked at first.
use Rattle.std.proofs.Common.{refl, ap, ◌∙◌}
use Rattle.model_h1.specs.FrameText.{unmask}
use Rattle.model_h1.proofs.FrameWritten.{masked_twice}
use Rattle.ws_frames.proofs.MaskLemmas.{none_masked}
use Rattle.ws_frames.proofs.mask.apply_mask_fast32.Goals as goal

pub loop-buf-init : goal.loop-buf-init
loop-buf-init c = (refl, none_masked _ _)

pub returns-clause-twice : goal.returns-clause-twice
returns-clause-twice c = ap (unmask c.args.mask 0) (c.mask_rest.ensures c.args.buf.now c.loop-buf-2.invariant.1) ∙ masked_twice c.args.mask 0 c.args.buf.now
