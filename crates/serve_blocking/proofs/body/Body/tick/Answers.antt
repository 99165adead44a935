use Rattle.serve_blocking.proofs.Failed.{times_out}
use Rattle.serve_blocking.proofs.Waited.{waits_none}
use Rattle.serve_blocking.proofs.body.Body.tick.Goals as goal

pub returns-in_default-clause-waits : goal.returns-in_default-clause-waits
returns-in_default-clause-waits g c = waits_none _

pub returns-then-not-can_tick-clause-waits : goal.returns-then-not-can_tick-clause-waits
returns-then-not-can_tick-clause-waits g c = waits_none _

pub returns-in-Abandoned-clause-late : goal.returns-in-Abandoned-clause-late
returns-in-Abandoned-clause-late g c = times_out _ _ _ _ c.in-Abandoned.is c.in_ok-note_moment.ensures.ticks
