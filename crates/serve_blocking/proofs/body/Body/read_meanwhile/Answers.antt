use Rattle.serve_blocking.proofs.Waited.{waits_equal, waits_then}
use Rattle.serve_blocking.proofs.body.Body.read_meanwhile.Goals as goal

pub returns-in_err-_came-clause-waits : goal.returns-in_err-_came-clause-waits
returns-in_err-_came-clause-waits g c =
    waits_then _ _ _ (waits_then _ _ _ c.tick.ensures.waits (waits_equal _ _ c.wait_for.ensures.same)) c.read_once.ensures.waits

pub returns-clause-waits : goal.returns-clause-waits
returns-clause-waits g c =
    waits_then _ _ _ (waits_then _ _ _ (waits_then _ _ _ c.tick.ensures.waits (waits_equal _ _ c.wait_for.ensures.same)) c.read_once.ensures.waits)
    (waits_equal _ _ c.wait_for-2.ensures.same)
