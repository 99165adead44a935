use Rattle.std.proofs.Common.{refl}
use Rattle.model_h1.specs.AnswerText.{camel_rest}
use Rattle.h1_encoder.proofs.head.length_name.Goals as goal

pub returns-then-camel : goal.returns-then-camel
unfolding camel_rest
returns-then-camel c = rw c.if-camel.true refl
