use Rattle.h1_connection.proofs.IntakeLemmas.{passes_counted}
use Rattle.h1_connection.proofs.connection.intake.Intake.pass.Goals as goal

pub invariant_of-self : goal.invariant_of-self
invariant_of-self c =
    (passes_counted c.args.has_ended c.args.rest.now c.self.inside.count c.beside_body-self-inside.result c.self.inside.input c.pass.new.self c.args.self.now c.is_nothing.result c.self.view_is c.self.invariant
    c.is_nothing.ensures c.beside_body-self-inside.ensures c.requires.unsearched c.requires.behind c.pass.ensures.unread).1

pub returns-clause-unread : goal.returns-clause-unread
returns-clause-unread c =
    (passes_counted c.args.has_ended c.args.rest.now c.self.inside.count c.beside_body-self-inside.result c.self.inside.input c.pass.new.self c.args.self.now c.is_nothing.result c.self.view_is c.self.invariant
    c.is_nothing.ensures c.beside_body-self-inside.ensures c.requires.unsearched c.requires.behind c.pass.ensures.unread).0
