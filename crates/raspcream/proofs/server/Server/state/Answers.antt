use Rattle.std.proofs.Common.{refl}
use Rattle.raspcream.proofs.ServedLemmas.{has_stated}
use Rattle.raspcream.proofs.server.Server.state.Goals as goal

pub returns-clause-stands : goal.returns-clause-stands
returns-clause-stands c = has_stated _ _ _ c.self.view_is refl c.reason_of-out.ensures c.numbers_of-out.ensures
