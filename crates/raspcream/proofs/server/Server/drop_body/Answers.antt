use Rattle.raspcream.proofs.ServedLemmas.{has_made, barred}
use Rattle.raspcream.proofs.server.Server.drop_body.Goals as goal

pub returns-clause-stands : goal.returns-clause-stands
returns-clause-stands c = has_made _ _ _ _ _ c.self.view_is c.tell.ensures.kind c.drop_body.ensures.stands

pub returns-then-not-can_pull-clause-refused : goal.returns-then-not-can_pull-clause-refused
returns-then-not-can_pull-clause-refused c = barred _ _ _ _ c.self.view_is c.can_pull.ensures.value c.if-not-can_pull.true
