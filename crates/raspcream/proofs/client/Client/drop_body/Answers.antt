use Rattle.model_client.specs.ClientEvent as on
use Rattle.raspcream.proofs.AskedLemmas.{has_made, barred}
use Rattle.raspcream.proofs.client.Client.drop_body.Goals as goal

pub returns-clause-stands : goal.returns-clause-stands
returns-clause-stands c = has_made _ _ _ _ _ c.self.view_is c.tell.ensures.kind c.drop_body.ensures.stands

pub returns-then-not-can_drop_body-clause-refused : goal.returns-then-not-can_drop_body-clause-refused
returns-then-not-can_drop_body-clause-refused c = barred _ _ on.drop_body _ c.self.view_is c.can_drop_body.ensures c.if-not-can_drop_body.true
