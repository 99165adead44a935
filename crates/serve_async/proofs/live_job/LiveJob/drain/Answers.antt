-- The job lived before it was asked to end, and so it does after it.
use Rattle.std.proofs.Common.{sym}
use Rattle.serve_async.proofs.Lives.{lives_drained}
use Rattle.serve_async.proofs.live_job.LiveJob.drain.Goals as goal

pub drain-requires : goal.drain-requires
drain-requires g c = record { «open» = c.self.invariant.may_poll }

pub invariant_of-self : goal.invariant_of-self
invariant_of-self g c =
    lives_drained g.J.Job.polled g.J.Job.drained g.J.Job.begun g.J.Job.can_poll c.self.inside.job c.drain.new.self
    c.drain.ensures.says c.self.invariant c.drain.ensures.«open»

pub returns : goal.returns
returns g c = rw (sym c.self.view_is) c.drain.ensures.says
