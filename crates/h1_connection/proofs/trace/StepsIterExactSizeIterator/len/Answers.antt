use Rattle.std.proofs.Common.{length, sym, ap, ◌∙◌}
use Rattle.h1_connection.proofs.TraceLemmas.{length-paired}
use Rattle.h1_connection.proofs.trace.StepsIterExactSizeIterator.len.Goals as goal

pub returns-clause-value : goal.returns-clause-value
returns-clause-value c =
    sym (length-paired c.self.inside.events.now c.self.inside.outcomes.now c.self.invariant) ∙ ap length c.self.view_is
