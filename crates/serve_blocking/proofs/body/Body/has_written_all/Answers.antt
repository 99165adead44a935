use Rattle.std.proofs.Common.{sym, subst, ◌∙◌}
use Rattle.std.proofs.lemmas.Bool.{eqb-true}
use Rattle.serve_blocking.specs.Served.{Line, IsWritten}
use Rattle.serve_blocking.proofs.Written.{all_is_written}
use Rattle.serve_blocking.proofs.body.Body.has_written_all.Goals as goal

pub returns : goal.returns
returns g c = λ none.
    subst (λ (l : Line). IsWritten l.state) c.self.view_is
    (all_is_written _ (λ trace stands. sym (eqb-true _ 0 none) ∙ c.buffered.ensures.traced trace stands))
