use Rattle.serve_blocking.proofs.Waited.{waits_equal, waits_then}
use Rattle.serve_blocking.proofs.body.Body.write_once.Goals as goal

pub returns-in_ok-note_write-in-Err-clause-waits : goal.returns-in_ok-note_write-in-Err-clause-waits
returns-in_ok-note_write-in-Err-clause-waits g c =
    waits_then _ _ _ (waits_then _ _ _ c.write_stretch.ensures.waits (waits_equal _ _ c.note_write-in-Err.ensures.same)) c.read_meanwhile.ensures.waits
