use Rattle.std.proofs.Common.{rules, arith}
use Rattle.raspcream.proofs.ServedLemmas.{has_held}
use Rattle.raspcream.proofs.server.Server.held.Goals as goal

pub returns-clause-stands : goal.returns-clause-stands
returns-clause-stands c =
    has_held _ _ _ _ _ _ c.self.view_is c.tell_bytes.ensures.kind (search rules) c.tell_bytes.ensures.len c.held_bytes.ensures.fits c.held_bytes.ensures.some c.held_bytes.ensures.whole

pub returns-in_default-clause-refused : goal.returns-in_default-clause-refused
returns-in_default-clause-refused c = omega (arith, c.in_default.ensures)
