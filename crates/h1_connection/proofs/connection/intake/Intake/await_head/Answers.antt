use Rattle.std.proofs.Common.{◌∙◌, ap}
use Rattle.h1_connection.specs.Stock.{Stock}
use Rattle.h1_connection.proofs.IntakeLemmas.{same_counted}
use Rattle.h1_connection.proofs.connection.intake.Intake.await_head.Goals as goal

pub invariant_of-self : goal.invariant_of-self
invariant_of-self c = (same_counted c.self.inside.count c.self.inside.input c.await_head.new.self c.self.invariant c.await_head.ensures.unread).1

pub returns-clause-ahead : goal.returns-clause-ahead
returns-clause-ahead c =
    (same_counted c.self.inside.count c.self.inside.input c.await_head.new.self c.self.invariant c.await_head.ensures.unread).0 ∙ ap (λ (s : Stock). s.ahead) c.self.view_is
