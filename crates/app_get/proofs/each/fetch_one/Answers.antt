use Rattle.app_get.proofs.Outcomes.{one_well, one_refused, one_failed}
use Rattle.app_get.proofs.each.fetch_one.Goals as goal

pub returns-then-said-lt400 : goal.returns-then-said-lt400
returns-then-said-lt400 g c = one_well _ _ _ _ _ c.if-said-lt400.true c.in-Ok.ensures

pub returns-else-said-lt400 : goal.returns-else-said-lt400
returns-else-said-lt400 g c = one_refused _ _ _ _ _ _ c.if-said-lt400.false c.in-Ok.ensures c.tell_status.ensures

pub returns-in-Err : goal.returns-in-Err
returns-in-Err g c = one_failed _ _ _ _ _ _ _ c.status.ensures.value c.in-Err.ensures c.tell_error.ensures
