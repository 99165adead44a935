use Rattle.std.proofs.Common.{rules, ap, ◌∙◌}
use Rattle.h1_output.specs.Queued.{with_text}
use Rattle.h1_connection.proofs.OutputLemmas.{text_put}
use Rattle.h1_connection.proofs.connection.output.Output.put_head.Goals as goal

pub returns-clause-ok : goal.returns-clause-ok
returns-clause-ok c =
    let x = c.put_with.ensures in
    text_put c.put_with.result _ _ _ x.0 _ _ (x.1 ∙ ap (with_text x.0) c.self.view_is) x.6 (search rules)
