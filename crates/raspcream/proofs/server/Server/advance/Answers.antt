use Rattle.std.proofs.Common.{rules, arith}
use Rattle.raspcream.proofs.ServedLemmas.{has_written, barred}
use Rattle.raspcream.proofs.server.Server.advance.Goals as goal

pub returns-clause-stands : goal.returns-clause-stands
returns-clause-stands c = has_written _ _ _ _ _ _ c.self.view_is c.tell.ensures.kind (search rules) (search rules) c.advance.ensures.stands

pub returns-then-not-can_write-clause-refused : goal.returns-then-not-can_write-clause-refused
returns-then-not-can_write-clause-refused c = barred _ _ _ _ c.self.view_is (c.can_write.ensures c.args.count) c.if-not-can_write.true

pub returns-in_default-clause-refused : goal.returns-in_default-clause-refused
returns-in_default-clause-refused c = absurd (omega (arith, c.in_default.ensures))
