use Rattle.app_get.proofs.Stopping.{late_only}
use Rattle.app_get.proofs.patience.Patience.left.Goals as goal

pub returns : goal.returns
returns g c = late_only _ _ _ _ c.left_at.ensures
