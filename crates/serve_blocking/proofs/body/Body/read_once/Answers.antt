use Rattle.serve_blocking.proofs.Waited.{waits_none, waits_then}
use Rattle.serve_blocking.proofs.body.Body.read_once.Goals as goal

pub returns-then-not-can_read-clause-waits : goal.returns-then-not-can_read-clause-waits
returns-then-not-can_read-clause-waits g c = waits_none _

pub returns-in-Ok-eq0-clause-waits : goal.returns-in-Ok-eq0-clause-waits
returns-in-Ok-eq0-clause-waits g c = waits_then _ _ _ c.read_bytes.ensures.waits c.end_input.ensures.waits
