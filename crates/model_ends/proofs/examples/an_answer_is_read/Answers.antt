use Rattle.std.proofs.Common.{refl}
use Rattle.model_client.specs.ReadOut.{read_out}
use Rattle.model_ends.proofs.examples.an_answer_is_read.Goals as goal

pub returns : goal.returns
unfolding read_out
returns c = refl
