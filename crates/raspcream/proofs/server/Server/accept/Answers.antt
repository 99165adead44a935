use Rattle.model_h1.specs.Event as on
use Rattle.std.proofs.Common.{rules, arith}
use Rattle.raspcream.proofs.ServedLemmas.{has_accepted, barred_accept, wants}
use Rattle.raspcream.proofs.server.Server.accept.Goals as goal

pub returns-clause-stands : goal.returns-clause-stands
returns-clause-stands c = has_accepted _ _ _ _ _ _ _ c.self.view_is (search rules) c.tell_accepted.ensures.kind c.tell_accepted.ensures.shown c.in-Ok-accept.ensures.stands

pub returns-then-not-can_accept-clause-refused : goal.returns-then-not-can_accept-clause-refused
returns-then-not-can_accept-clause-refused c = barred_accept _ _ _ _ _ c.self.view_is (search rules) c.can_accept.ensures c.if-not-can_accept.true

pub returns-in_default-clause-refused : goal.returns-in_default-clause-refused
returns-in_default-clause-refused c = omega (arith, c.in_default.ensures)

pub returns-in_default-accept-clause-refused : goal.returns-in_default-accept-clause-refused
returns-in_default-accept-clause-refused c = wants _ _ (on.accept c.args.limit) c.self.view_is c.in_default-accept.ensures.no_memory_needed
