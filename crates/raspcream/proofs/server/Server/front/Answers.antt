use Rattle.raspcream.proofs.ServedLemmas.{has_given}
use Rattle.raspcream.proofs.server.Server.front.Goals as goal

pub returns-clause-stands : goal.returns-clause-stands
returns-clause-stands c = has_given _ _ _ _ c.self.view_is c.tell_bytes.ensures.kind c.tell_bytes.ensures.len c.stretch.ensures.fits c.stretch.ensures.some
