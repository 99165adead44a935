use Rattle.std.proofs.Common.{refl, subst, sym}
use Rattle.h1_client.specs.Bodies.{failing}
use Rattle.h1_client.specs.Parts.{Steps}
use Rattle.h1_client.specs.declared.connection.parts.Parts.{Parts}
use Rattle.h1_client.specs.declared.event.ClientEnd.TheVariants.{FailedRequest}
use Rattle.model_client.specs.ClientEvent as on
use Rattle.h1_client.proofs.RequestLemmas.{no_end, ended_step}
use Rattle.h1_client.proofs.connection.parts.Parts.end_body.Goals as goal

pub returns-in_default-clause-ok : goal.returns-in_default-clause-ok
returns-in_default-clause-ok c = λ setting. no_end setting c.args.self.now c.in_default.is c.requires

pub returns-clause-ok : goal.returns-clause-ok
returns-clause-ok c = λ setting.
    subst (λ (q : Parts). Steps setting c.args.self.now on.body_end on.done q) (sym c.fail_where.ensures)
    (ended_step setting c.args.self.now c.in-Some.sending c.put_end.new.self c.is_short.result (failing c.is_short.result FailedRequest c.args.self.now.failed)
    c.in-Some.is c.requires c.in_ok-put_end.ensures.ok c.is_short.ensures refl)
