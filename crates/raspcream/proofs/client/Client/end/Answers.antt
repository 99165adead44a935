use Rattle.model_client.specs.ClientEvent as on
use Rattle.h1_client.specs.Requests.{SendsNoEnd}
use Rattle.h1_client.specs.State.{State}
use Rattle.raspcream.proofs.AskedLemmas.{has_made, barred, wants}
use Rattle.raspcream.proofs.client.Client.end.Goals as goal

pub returns-clause-stands : goal.returns-clause-stands
returns-clause-stands c = has_made _ _ _ _ _ c.self.view_is c.tell.ensures.kind c.in-Ok.ensures.stands

pub returns-then-not-can_end_body-clause-refused : goal.returns-then-not-can_end_body-clause-refused
returns-then-not-can_end_body-clause-refused c = barred _ _ on.body_end _ c.self.view_is c.can_end_body.ensures.ends c.if-not-can_end_body.true

pub returns-in_default-clause-refused : goal.returns-in_default-clause-refused
returns-in_default-clause-refused c = wants (λ (s : State). SendsNoEnd s.kept.sending) _ _ c.self.view_is c.in_default.ensures.no_memory_needed
