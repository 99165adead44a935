use Rattle.raspcream.proofs.ServedLemmas.{has_made, barred}
use Rattle.raspcream.proofs.server.Server.drain.Goals as goal

pub returns-clause-stands : goal.returns-clause-stands
returns-clause-stands c = has_made _ _ _ _ _ c.self.view_is c.tell.ensures.kind c.drain.ensures.stands

pub returns-then-not-can_drain-clause-refused : goal.returns-then-not-can_drain-clause-refused
returns-then-not-can_drain-clause-refused c = barred _ _ _ _ c.self.view_is c.can_drain.ensures c.if-not-can_drain.true
