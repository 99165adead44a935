use Rattle.serve_blocking.proofs.Waited.{waits_then}
use Rattle.serve_blocking.proofs.body.Body.wait_for_more.Goals as goal

pub returns-in_err-_came-clause-waits : goal.returns-in_err-_came-clause-waits
returns-in_err-_came-clause-waits g c = waits_then _ _ _ c.flush.ensures.waits c.fill.ensures.waits

pub returns-clause-waits : goal.returns-clause-waits
returns-clause-waits g c = waits_then _ _ _ c.flush.ensures.waits c.fill.ensures.waits
