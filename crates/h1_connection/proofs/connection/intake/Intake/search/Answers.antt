use Rattle.std.proofs.Common.{◌∙◌, ap}
use Rattle.h1_connection.specs.Stock.{Stock}
use Rattle.h1_connection.proofs.IntakeLemmas.{same_counted}
use Rattle.h1_connection.proofs.connection.intake.Intake.search.Goals as goal

pub invariant_of-self : goal.invariant_of-self
invariant_of-self c = (same_counted c.self.inside.count c.self.inside.input c.search.new.self c.self.invariant c.search.ensures.unread).1

pub returns-clause-ahead : goal.returns-clause-ahead
returns-clause-ahead c =
    (same_counted c.self.inside.count c.self.inside.input c.search.new.self c.self.invariant c.search.ensures.unread).0 ∙ ap (λ (s : Stock). s.ahead) c.self.view_is
