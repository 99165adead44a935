use Rattle.raspcream.proofs.ServedLemmas.{has_made, barred}
use Rattle.raspcream.proofs.server.Server.fail.Goals as goal

pub returns-clause-stands : goal.returns-clause-stands
returns-clause-stands c = has_made _ _ _ _ _ c.self.view_is c.tell.ensures.kind c.fail_answer.ensures.stands

pub returns-then-not-can_end_answer-clause-refused : goal.returns-then-not-can_end_answer-clause-refused
returns-then-not-can_end_answer-clause-refused c = barred _ _ _ _ c.self.view_is c.can_end_answer.ensures.fails c.if-not-can_end_answer.true
