use Rattle.std.proofs.Common.{refl}
use Rattle.model_h1.proofs.head_examples.post_without_a_length.Goals as goal

pub returns-clause-refused : goal.returns-clause-refused
returns-clause-refused c = refl

pub returns-clause-taken : goal.returns-clause-taken
returns-clause-taken c = refl
