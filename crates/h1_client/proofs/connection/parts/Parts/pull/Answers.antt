use Rattle.std.proofs.Common.{Bool, ap, subst}
use Rattle.h1_client.specs.Bodies.{failing}
use Rattle.h1_client.specs.Parts.{IsSettled}
use Rattle.h1_client.specs.declared.connection.parts.Parts.{Parts}
use Rattle.h1_client.specs.declared.event.ClientEnd.TheVariants.{BrokenAnswer}
use Rattle.h1_client.proofs.PullLemmas.{pull_step, pull_sound}
use Rattle.h1_client.proofs.connection.parts.Parts.pull.Goals as goal

pub returns-clause-ok : goal.returns-clause-ok
returns-clause-ok c = λ setting.
    pull_step setting c.args.self.now _ c.in-Some.body c.pull.new.self c.in_ok-pulled.pulled c.pull.new.input _ c.in-Some.is c.requires.wanted c.requires.sound
    c.in_ok-pulled.ensures.pulled (ap (λ (b : Bool). failing b BrokenAnswer c.args.self.now.failed) c.breaks_body.ensures)
    (subst (λ (p : Parts). IsSettled p c.settle.new.self) c.fail_where.ensures c.settle.ensures)

pub returns-clause-sound : goal.returns-clause-sound
returns-clause-sound c =
    pull_sound c.args.self.now _ c.in-Some.body c.pull.new.self c.in_ok-pulled.pulled c.pull.new.input _ c.in-Some.is c.requires.wanted c.requires.sound
    c.in_ok-pulled.ensures.pulled
    (subst (λ (p : Parts). IsSettled p c.settle.new.self) c.fail_where.ensures c.settle.ensures)
