use Rattle.std.proofs.Common.{◌∙◌, ap}
use Rattle.h1_connection.proofs.AnswerLemmas.{completed_may}
use Rattle.h1_connection.proofs.StepLemmas.{passed_may}
use Rattle.h1_connection.specs.declared.connection.parts.Parts.{Parts}
use Rattle.h1_connection.proofs.connection.parts.Parts.complete.Goals as goal

pub pass_body-requires : goal.pass_body-requires
pass_body-requires c = completed_may c.args.self.now c.set_reply.new.self _ _ c.set_reply.ensures c.requires.unsearched c.requires.behind

pub settle-requires : goal.settle-requires
settle-requires c =
    passed_may (record c.set_reply.new.self { clock = record c.set_reply.new.self.clock { completed = c.set_reply.new.self.clock.last } }) c.pass_body.new.self
    c.pass_body.ensures.kept c.pass_body.ensures.input c.pass_body.ensures.ahead
    (completed_may c.args.self.now c.set_reply.new.self _ _ c.set_reply.ensures c.requires.unsearched c.requires.behind)

pub returns-clause-ahead : goal.returns-clause-ahead
returns-clause-ahead c = c.settle.ensures.ahead ∙ c.pass_body.ensures.ahead ∙ ap (λ (p : Parts). p.input.ahead) c.set_reply.ensures
