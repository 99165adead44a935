use Rattle.model_client.specs.ClientEvent as on
use Rattle.raspcream.proofs.AskedLemmas.{has_made, barred}
use Rattle.raspcream.proofs.client.Client.fail.Goals as goal

pub returns-clause-stands : goal.returns-clause-stands
returns-clause-stands c = has_made _ _ _ _ _ c.self.view_is c.tell.ensures.kind c.fail_body.ensures.stands

pub returns-then-not-can_end_body-clause-refused : goal.returns-then-not-can_end_body-clause-refused
returns-then-not-can_end_body-clause-refused c = barred _ _ on.body_error _ c.self.view_is c.can_end_body.ensures.fails c.if-not-can_end_body.true
