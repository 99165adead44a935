use Rattle.serve_blocking.proofs.Failed.{at_err}
use Rattle.serve_blocking.proofs.answer.Writer.write.Goals as goal

pub returns-in-Err-clause-fails : goal.returns-in-Err-clause-fails
returns-in-Err-clause-fails g c = at_err _ _ _ c.in-Err.is c.send.ensures.fails
