use Rattle.serve_blocking.proofs.Failed.{full_here}
use Rattle.serve_blocking.proofs.Results.{on_err}
use Rattle.serve_blocking.proofs.Waited.{waits_none}
use Rattle.serve_blocking.proofs.body.Body.make_room.Goals as goal

pub returns-clause-waits : goal.returns-clause-waits
returns-clause-waits g c = waits_none _

pub returns-then-write_room-eq0-clause-full : goal.returns-then-write_room-eq0-clause-full
returns-then-write_room-eq0-clause-full g c = on_err _ (full_here _ _ _ c.self.view_is c.write_room.ensures c.if-write_room-eq0.true)
