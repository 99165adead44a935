use Rattle.model_h1.specs.Event as on
use Rattle.raspcream.proofs.ServedLemmas.{has_next, barred_next, wants}
use Rattle.raspcream.proofs.server.Server.next.Goals as goal

pub returns-clause-stands : goal.returns-clause-stands
returns-clause-stands c = has_next _ _ _ _ _ _ c.self.view_is c.tell_next.ensures.kind c.tell_next.ensures.shown c.in-Ok.ensures.stands

pub returns-then-not-can_next-clause-refused : goal.returns-then-not-can_next-clause-refused
returns-then-not-can_next-clause-refused c = barred_next _ _ _ c.self.view_is c.can_next.ensures.value c.if-not-can_next.true

pub returns-in_default-clause-refused : goal.returns-in_default-clause-refused
returns-in_default-clause-refused c = wants _ _ on.next c.self.view_is c.in_default.ensures.no_memory_needed
