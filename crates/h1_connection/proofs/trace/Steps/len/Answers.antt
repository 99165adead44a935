use Rattle.std.proofs.Common.{length, sym, ap, ◌∙◌}
use Rattle.h1_connection.proofs.TraceLemmas.{length-paired}
use Rattle.h1_connection.proofs.trace.Steps.len.Goals as goal

pub returns : goal.returns
returns c =
    c.len.ensures ∙ c.self.inside.outcomes.ok.0
    ∙ sym (length-paired c.self.inside.events.now c.self.inside.outcomes.items c.self.invariant) ∙ ap length c.self.view_is
