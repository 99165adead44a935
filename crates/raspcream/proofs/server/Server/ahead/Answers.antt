use Rattle.raspcream.proofs.ServedLemmas.{has_counted, wants_count}
use Rattle.raspcream.proofs.server.Server.ahead.Goals as goal

pub returns-clause-stands : goal.returns-clause-stands
returns-clause-stands c = has_counted _ _ _ _ c.self.view_is c.tell_number.ensures.kind c.tell_number.ensures.number c.in-Ok.ensures.value c.in-Ok.ensures.traced

pub returns-in_default-clause-refused : goal.returns-in_default-clause-refused
returns-in_default-clause-refused c = wants_count _ _ c.self.view_is c.in_default.ensures.no_memory_needed
