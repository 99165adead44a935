use Rattle.serve_blocking.proofs.Waited.{waits_none, waits_then}
use Rattle.serve_blocking.proofs.body.Body.flush_at_once.Goals as goal

pub loop-init : goal.loop-init
loop-init g c = record { waits = waits_none _ }

pub loop-preserved : goal.loop-preserved
loop-preserved g c = record { waits = waits_then _ _ _ c.loop.invariant.waits c.write_stretch.ensures.waits }

pub returns-then-is_err : goal.returns-then-is_err
returns-then-is_err g c = record { waits = waits_then _ _ _ c.loop.invariant.waits c.write_stretch.ensures.waits }
