use Rattle.std.proofs.Common.{arith}
use Rattle.raspcream.proofs.op.op_of.Goals as goal

pub returns-in_default-clause-none : goal.returns-in_default-clause-none
returns-in_default-clause-none c = λ none. omega arith
