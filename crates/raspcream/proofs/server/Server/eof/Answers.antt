use Rattle.raspcream.proofs.ServedLemmas.{has_made, barred}
use Rattle.raspcream.proofs.server.Server.eof.Goals as goal

pub returns-clause-stands : goal.returns-clause-stands
returns-clause-stands c = has_made _ _ _ _ _ c.self.view_is c.tell.ensures.kind c.eof.ensures.stands

pub returns-then-not-can_read-clause-refused : goal.returns-then-not-can_read-clause-refused
returns-then-not-can_read-clause-refused c = barred _ _ _ _ c.self.view_is c.can_read.ensures.eof c.if-not-can_read.true
