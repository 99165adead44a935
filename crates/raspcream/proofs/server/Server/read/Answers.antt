use Rattle.raspcream.proofs.ServedLemmas.{has_read, barred}
use Rattle.raspcream.proofs.server.Server.read.Goals as goal

pub returns-clause-stands : goal.returns-clause-stands
returns-clause-stands c = has_read _ _ _ _ _ _ c.self.view_is c.tell_number.ensures.kind c.tell_number.ensures.number c.in-Ok.ensures.stands

pub returns-then-not-can_read-clause-refused : goal.returns-then-not-can_read-clause-refused
returns-then-not-can_read-clause-refused c = barred _ _ _ _ c.self.view_is (c.can_read.ensures.read c.args.input.now) c.if-not-can_read.true
