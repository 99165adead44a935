use Rattle.std.proofs.Common.{refl}
use Rattle.model_h1.specs.TakeNext.{take_next}
use Rattle.model_h1.proofs.chunk_examples.chunk_is_taken.Goals as goal

pub returns-clause-middle : goal.returns-clause-middle
unfolding take_next
returns-clause-middle c = refl

pub returns-clause-end : goal.returns-clause-end
unfolding take_next
returns-clause-end c = refl
