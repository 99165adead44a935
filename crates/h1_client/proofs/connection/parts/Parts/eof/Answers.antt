use Rattle.std.proofs.Common.{subst}
use Rattle.h1_client.specs.Bodies.{IsPassedBody}
use Rattle.h1_client.specs.declared.connection.parts.Parts.{Parts}
use Rattle.h1_client.proofs.BodyLemmas.{eof_step}
use Rattle.h1_client.proofs.connection.parts.Parts.eof.Goals as goal

pub returns-clause-ok : goal.returns-clause-ok
returns-clause-ok c = λ setting.
    eof_step setting c.args.self.now c.pass_body.new.self _ (subst (λ (p : Parts). IsPassedBody p c.pass_body.new.self) c.end_body_of_answer.ensures c.pass_body.ensures) c.settle.ensures
