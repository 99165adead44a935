use Rattle.std.proofs.Common.{ap}
use Rattle.h1_connection.specs.Stock.{Stock}
use Rattle.h1_connection.proofs.IntakeLemmas.{nothing_stocked}
use Rattle.h1_connection.proofs.connection.intake.Intake.take_frame.Goals as goal

pub invariant_of-self : goal.invariant_of-self
invariant_of-self c = (nothing_stocked c.new-self-inside.result c.take_frame.new.self c.new-self-inside.ensures).1

pub returns-clause-ahead : goal.returns-clause-ahead
returns-clause-ahead c = ap (λ (s : Stock). s.ahead) (nothing_stocked c.new-self-inside.result c.take_frame.new.self c.new-self-inside.ensures).0
