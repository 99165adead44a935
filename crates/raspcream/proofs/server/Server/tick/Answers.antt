use Rattle.model_h1.specs.Event as on
use Rattle.raspcream.proofs.ServedLemmas.{has_ticked, barred, wants}
use Rattle.raspcream.proofs.server.Server.tick.Goals as goal

pub returns-clause-stands : goal.returns-clause-stands
returns-clause-stands c = has_ticked _ _ _ _ _ _ c.self.view_is c.tell_expiry.ensures.kind c.tell_expiry.ensures.shown c.in-Ok.ensures.stands

pub returns-then-not-can_tick-clause-refused : goal.returns-then-not-can_tick-clause-refused
returns-then-not-can_tick-clause-refused c = barred _ _ _ _ c.self.view_is c.can_tick.ensures c.if-not-can_tick.true

pub returns-in_default-clause-refused : goal.returns-in_default-clause-refused
returns-in_default-clause-refused c = wants _ _ (on.tick c.args.moment) c.self.view_is c.in_default.ensures.no_memory_needed
