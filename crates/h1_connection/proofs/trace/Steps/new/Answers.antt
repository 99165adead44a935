use Rattle.std.proofs.Common.{take, ap, ◌∙◌}
use Rattle.h1_connection.specs.Steps.{paired}
use Rattle.h1_connection.proofs.TraceLemmas.{paired_take}
use Rattle.h1_connection.proofs.trace.Steps.new.Goals as goal

pub returns : goal.returns
returns c =
    ap (λ n. paired (take n c.args.events.now) c.args.outcomes.items) (c.len.ensures ∙ c.args.outcomes.ok.0)
    ∙ paired_take c.args.events.now c.args.outcomes.items
