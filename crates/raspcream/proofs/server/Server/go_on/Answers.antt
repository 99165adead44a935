use Rattle.raspcream.proofs.ServedLemmas.{has_made, barred}
use Rattle.raspcream.proofs.server.Server.go_on.Goals as goal

pub returns-clause-stands : goal.returns-clause-stands
returns-clause-stands c = has_made _ _ _ _ _ c.self.view_is c.tell.ensures.kind c.in-Ok.ensures.stands

pub returns-then-not-can_continue-clause-refused : goal.returns-then-not-can_continue-clause-refused
returns-then-not-can_continue-clause-refused c = barred _ _ _ _ c.self.view_is c.can_continue.ensures c.if-not-can_continue.true
