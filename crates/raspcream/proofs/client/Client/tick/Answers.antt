use Rattle.model_client.specs.ClientEvent as on
use Rattle.raspcream.proofs.AskedLemmas.{has_made, barred}
use Rattle.raspcream.proofs.client.Client.tick.Goals as goal

pub returns-clause-stands : goal.returns-clause-stands
returns-clause-stands c = has_made _ _ _ _ _ c.self.view_is c.tell.ensures.kind c.tick.ensures.stands

pub returns-then-not-can_tick-clause-refused : goal.returns-then-not-can_tick-clause-refused
returns-then-not-can_tick-clause-refused c = barred _ _ (on.tick c.args.moment) _ c.self.view_is c.can_tick.ensures c.if-not-can_tick.true
