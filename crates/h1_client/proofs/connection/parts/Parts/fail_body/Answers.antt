use Rattle.std.proofs.Common.{true, refl, subst, sym}
use Rattle.h1_client.specs.Bodies.{failing}
use Rattle.h1_client.specs.Parts.{Steps}
use Rattle.h1_client.specs.declared.connection.parts.Parts.{Parts}
use Rattle.h1_client.specs.declared.event.ClientEnd.TheVariants.{FailedRequest}
use Rattle.model_client.specs.ClientEvent as on
use Rattle.h1_client.proofs.RequestLemmas.{failed_step}
use Rattle.h1_client.proofs.connection.parts.Parts.fail_body.Goals as goal

pub returns-clause-ok : goal.returns-clause-ok
returns-clause-ok c = λ setting.
    subst (λ (q : Parts). Steps setting c.args.self.now on.body_error on.done q) (sym c.fail_where.ensures)
    (failed_step setting c.args.self.now (failing true FailedRequest c.args.self.now.failed) c.requires refl)
