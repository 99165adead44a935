use Rattle.std.proofs.Common.{length, arith}
use Rattle.app_get.proofs.Outcomes.{fetched_none, fetched_more, fetched_stopped, fetched_each}
use Rattle.app_get.proofs.each.fetch_each.Goals as goal

pub loop-url-init : goal.loop-url-init
loop-url-init g c = fetched_none _ _

pub loop-url-preserved : goal.loop-url-preserved
loop-url-preserved g c = fetched_more _ _ _ _ _ _ _ c.loop-url.invariant c.in-Ok.ensures

pub returns-in-Err : goal.returns-in-Err
returns-in-Err g c = fetched_stopped _ _ _ c.loop-url.url-index (length c.args.urls.now) _ _ _ c.loop-url.invariant (omega arith) c.in-Err.ensures

pub returns : goal.returns
returns g c = fetched_each _ _ c.loop-url.url-index (length c.args.urls.now) _ _ c.loop-url.invariant (omega arith)
