-- The job lived before the poll, and so it does after it.
use Rattle.std.proofs.Common.{sym}
use Rattle.serve_async.proofs.Lives.{lives_polled}
use Rattle.serve_async.proofs.live_job.LiveJob.poll.Goals as goal

pub poll-requires : goal.poll-requires
poll-requires g c = record { «open» = c.self.invariant.may_poll }

pub invariant_of-self : goal.invariant_of-self
invariant_of-self g c =
    lives_polled g.J.Job.polled g.J.Job.drained g.J.Job.begun g.J.Job.can_poll c.self.inside.job c.poll.new.self c.args.moment c.poll.new.cx c.poll.result
    c.poll.ensures.says c.self.invariant c.poll.ensures.«open»

pub returns-clause-says : goal.returns-clause-says
returns-clause-says g c = rw (sym c.self.view_is) c.poll.ensures.says
