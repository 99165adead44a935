use Rattle.std.proofs.Common.{◌∙◌, arith}
use Rattle.h1_connection.proofs.HeadLemmas.{closed_steps}
use Rattle.h1_connection.proofs.connection.parts.Parts.next_without.Goals as goal

pub returns-in-Some-clause-ok : goal.returns-in-Some-clause-ok
returns-in-Some-clause-ok c = λ held. closed_steps c.args.config.now c.args.self.now c.in-Some.end c.requires.sound c.in-Some.ensures

pub returns-in-Fault-clause-ahead : goal.returns-in-Fault-clause-ahead
returns-in-Fault-clause-ahead c = λ may. (omega (arith, c.requires.none_ahead), c.in_ok-fault.ensures.ahead ∙ c.requires.none_ahead)
