use Rattle.std.proofs.Common.{sym}
use Rattle.h1_client.specs.ClientMeaning.{setting_of}
use Rattle.h1_client.proofs.AnswerLemmas.{closed_next, needs_by}
use Rattle.h1_client.proofs.connection.parts.Parts.next.Goals as goal

pub returns-in-Some-clause-ok : goal.returns-in-Some-clause-ok
returns-in-Some-clause-ok c = closed_next (setting_of c.args.config.now) c.args.self.now c.in-Some.end c.requires c.in-Some.ensures

pub returns-clause-no_memory_needed : goal.returns-clause-no_memory_needed
returns-clause-no_memory_needed c = λ needs. c.next_while_open.ensures.no_memory_needed (needs_by _ (sym c.in_default.ensures) needs)
