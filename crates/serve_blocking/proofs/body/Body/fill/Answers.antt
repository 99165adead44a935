use Rattle.serve_blocking.proofs.Waited.{waits_equal, waits_then}
use Rattle.serve_blocking.proofs.body.Body.fill.Goals as goal

pub returns-in_err-tick-clause-waits : goal.returns-in_err-tick-clause-waits
returns-in_err-tick-clause-waits g c =
    waits_then _ _ _ (waits_then _ _ _ (waits_equal _ _ c.wait_for.ensures.same) c.read_once.ensures.waits) c.tick.ensures.waits

pub returns-in_err-note_read-clause-waits : goal.returns-in_err-note_read-clause-waits
returns-in_err-note_read-clause-waits g c =
    waits_then _ _ _ (waits_then _ _ _ (waits_then _ _ _ (waits_equal _ _ c.wait_for.ensures.same) c.read_once.ensures.waits) c.tick.ensures.waits)
    (waits_equal _ _ c.note_read-2.ensures.same)

pub returns-clause-waits : goal.returns-clause-waits
returns-clause-waits g c =
    waits_then _ _ _ (waits_then _ _ _ (waits_then _ _ _ (waits_equal _ _ c.wait_for.ensures.same) c.read_once.ensures.waits) c.tick.ensures.waits)
    (waits_equal _ _ c.note_read-2.ensures.same)
