use Rattle.std.proofs.Common.{refl}
use Rattle.model_client.proofs.answer_examples.nobody_asked.Goals as goal

pub returns : goal.returns
returns c = refl
