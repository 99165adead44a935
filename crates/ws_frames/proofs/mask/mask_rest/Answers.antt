-- The bytes are masked one by one.
use Rattle.std.proofs.Common.{◌∙◌, arith}
use Rattle.std.proofs.lemmas.List.{length-set}
use Rattle.ws_frames.proofs.MaskLemmas.{byte_masked, all_masked}
use Rattle.ws_frames.proofs.mask.mask_rest.Goals as goal

pub loop-at-preserved : goal.loop-at-preserved
loop-at-preserved c = (length-set _ _ _ ∙ c.loop-at.invariant.0, λ all so. byte_masked _ all _ _ c.loop-at-test.true (c.loop-at.invariant.1 all so))

pub returns : goal.returns
returns c = λ all so. all_masked c.args.mask all c.loop-at.buf c.loop-at.at (omega arith) (c.loop-at.invariant.1 all so)
