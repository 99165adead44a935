use Rattle.std.proofs.Common.{◌∙◌, ap}
use Rattle.h1_connection.specs.Stock.{Stock}
use Rattle.h1_connection.proofs.IntakeLemmas.{still_counted}
use Rattle.h1_connection.proofs.connection.intake.Intake.take.Goals as goal

pub invariant_of-self-2 : goal.invariant_of-self-2
invariant_of-self-2 c = (still_counted c.self.inside.count c.self.inside.input c.take.new.self _ c.self.invariant c.in_ok-count.ensures.ok).1

pub returns-clause-ahead : goal.returns-clause-ahead
returns-clause-ahead c =
    (still_counted c.self.inside.count c.self.inside.input c.take.new.self _ c.self.invariant c.in_ok-count.ensures.ok).0 ∙ ap (λ (s : Stock). s.ahead) c.self.view_is
