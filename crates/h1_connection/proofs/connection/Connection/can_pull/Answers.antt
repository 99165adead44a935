use Rattle.std.proofs.Common.{sym, ◌∙◌, subst}
use Rattle.model_h1.specs.Event as on
use Rattle.h1_connection.specs.State.{State, IsAllowed}
use Rattle.h1_connection.proofs.GoesOnLemmas.{body_pulled}
use Rattle.h1_connection.proofs.connection.Connection.can_pull.Goals as goal

pub returns-clause-pull : goal.returns-clause-pull
returns-clause-pull c = λ is.
    body_pulled c.args.self.now (subst (λ (s : State). IsAllowed s on.drop_body) c.self.view_is (sym c.can_pull.ensures ∙ is))
