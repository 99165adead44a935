use Rattle.serve_blocking.proofs.Failed.{at_err, no_err}
use Rattle.serve_blocking.proofs.Waited.{waits_follow}
use Rattle.serve_blocking.proofs.answer.Writer.flush.Goals as goal

pub returns-in-Ok-clause-follows : goal.returns-in-Ok-clause-follows
returns-in-Ok-clause-follows g c = waits_follow _ _ c.flush.ensures.waits

pub returns-in-Err-clause-follows : goal.returns-in-Err-clause-follows
returns-in-Err-clause-follows g c = waits_follow _ _ c.flush.ensures.waits

pub returns-in-Err-clause-lost : goal.returns-in-Err-clause-lost
returns-in-Err-clause-lost g c = at_err _ _ _ c.in-Err.is c.flush.ensures.lost

pub returns-in-Err-clause-idle : goal.returns-in-Err-clause-idle
returns-in-Err-clause-idle g c = λ flushed. no_err _ _ _ c.in-Err.is (c.flush.ensures.idle flushed)
