use Rattle.std.proofs.Common.{refl, arith}
use Rattle.model_h1.proofs.head_examples.too_many_lines.Goals as goal

pub returns-clause-many : goal.returns-clause-many
returns-clause-many c = omega arith

pub returns-clause-enough : goal.returns-clause-enough
returns-clause-enough c = refl
